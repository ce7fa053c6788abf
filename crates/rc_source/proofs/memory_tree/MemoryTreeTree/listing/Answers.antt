use Rattle.std.proofs.lemmas.List.{length-map}
use Rattle.std.proofs.Common.{◌≢◌, ◌==◌, true, false, ◌≡◌, ◌↔◌, ℕ, List, [], Contains, length, map}
use Rattle.std.proofs.Common.{sym, ap, subst, ◌∙◌, string_bytes, vec_len, arith}
use Rattle.std.specs.List.{filter_map}
use Rattle.rc_source.specs.Tree.{Source, path_of, next_name, names_of}
use Rattle.rc_source.specs.Shown.{shown_files}
use Rattle.rc_source.proofs.Known.{of_known, names_of-shown, none_from_len}
use Rattle.rc_source.proofs.memory_tree.MemoryTreeTree.listing.Goals as goal

-- what paths give, by what they are seen as and by what they begin with
gives : (names paths seen : List (List ℕ)) (a b : List ℕ) → names ≡ filter_map (next_name a) paths
    → a ≡ b → seen ≡ paths → filter_map (next_name b) seen ≡ names
gives names paths seen a b e f g =
    ap (filter_map (next_name b)) g ∙ ap (λ t. filter_map (next_name t) paths) (sym f) ∙ sym e

pub returns-then-is_empty-clause-names : goal.returns-then-is_empty-clause-names
returns-then-is_empty-clause-names c =
    let files = c.self.inside.files.entries in
    let inside : List ℕ = path_of (path_of c.args.service.now c.args.folder.now) [] in
    let P : Source → Type 0 =
    λ source. filter_map (next_name inside) (names_of source.files) ≡ [] in
    let begins : c.as_str-2.result.now ≡ inside = c.as_str-2.ensures.value
    ∙ c.in_ok-beginning.ensures
    ∙ ap (λ f. path_of f []) (c.as_str.ensures.value ∙ c.in_ok-folder.ensures) in
    let same : vec_len c.in_ok-names.names ≡ length c.in_ok-names.names.items =
    omega (arith, c.in_ok-names.names.ok.0) in
    let none : c.in_ok-names.names.items ≡ [] = none_from_len c.in_ok-names.names.items
    (vec_len c.in_ok-names.names) same (sym c.is_empty.ensures ∙ c.if-is_empty.true) in
    let found = gives (map string_bytes c.in_ok-names.names.items) _ (names_of (shown_files files))
    c.as_str-2.result.now inside c.in_ok-names.ensures begins
    (names_of-shown string_bytes (λ v. v.items) files) in
    of_known P c.args.self.now (subst P c.self.view_is (found ∙ ap (map string_bytes) none))

pub returns-clause-names : goal.returns-clause-names
returns-clause-names c =
    let files = c.self.inside.files.entries in
    let inside : List ℕ = path_of (path_of c.args.service.now c.args.folder.now) [] in
    let names = map string_bytes c.in_ok-names.names.items in
    let P : Source → Type 0 = λ source. (name : List ℕ)
    → Contains names name ↔ Contains (filter_map (next_name inside) (names_of source.files)) name in
    let begins : c.as_str-2.result.now ≡ inside = c.as_str-2.ensures.value
    ∙ c.in_ok-beginning.ensures
    ∙ ap (λ f. path_of f []) (c.as_str.ensures.value ∙ c.in_ok-folder.ensures) in
    let found = gives (map string_bytes c.in_ok-names.names.items) _ (names_of (shown_files files))
    c.as_str-2.result.now inside c.in_ok-names.ensures begins
    (names_of-shown string_bytes (λ v. v.items) files) in
    let same : vec_len c.in_ok-names.names ≡ length c.in_ok-names.names.items =
    omega (arith, c.in_ok-names.names.ok.0) in
    let some : names ≢ [] = λ e.
    let zero : vec_len c.in_ok-names.names ≡ 0 =
    same ∙ sym (length-map c.in_ok-names.names.items string_bytes) ∙ ap length e in
    let no : true ≡ false =
    subst (λ v. (v == 0) ≡ false) zero (sym c.is_empty.ensures ∙ c.if-is_empty.false) in
    absurd cc in
    λ source known. (
      some,
      of_known P c.args.self.now
          (subst P c.self.view_is
          (λ name. (
            λ h. subst (λ l. Contains l name) (sym found) h,
            λ h. subst (λ l. Contains l name) found h,
          ))) source known,
    )
