use Rattle.std.proofs.Common.{◌≡◌, ◌↔◌, List, ℕ, Contains, map, sym, subst, string_bytes}
use Rattle.rc_model.specs.Names.{IsInByteOrder}
use Rattle.rc_source.specs.Tree.{Source, IsSource, AreEntries}
use Rattle.rc_source.specs.Shown.{shown_files}
use Rattle.rc_source.proofs.Known.{of_known, names_of-shown}
use Rattle.rc_source.proofs.TextSets.{IsInByteOrder-from_keys}
use Rattle.rc_source.proofs.memory_tree.MemoryTreeTree.entries.Goals as goal

-- equal lists have the same elements
alike : (a b : List (List ℕ)) → a ≡ b → (name : List ℕ) → Contains a name ↔ Contains b name
alike a b e name =
    (λ h. subst (λ l. Contains l name) e h, λ h. subst (λ l. Contains l name) (sym e) h)

pub returns-clause-names : goal.returns-clause-names
returns-clause-names c =
    let P : Source → Type 0 =
    λ source. IsSource source × AreEntries source (map string_bytes c.in_ok-texts.field-0.items) in
    let files = c.self.inside.files.entries in
    let ordered = subst IsInByteOrder (sym (names_of-shown string_bytes (λ v. v.items) files))
    (IsInByteOrder-from_keys string_bytes (map (λ e. e.0) files) c.len-count.ensures.ordered) in
    let seen : P
    (record {
      entries = map string_bytes c.self.inside.entries.keys;
      files =
          shown_files files;
    }) = (
      record { entries = c.in_ok-texts.ensures.order; files = ordered },
      alike _ _ c.in_ok-texts.ensures.texts,
    ) in
    of_known P c.args.self.now (subst P c.self.view_is seen)
