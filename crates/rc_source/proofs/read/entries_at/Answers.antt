use Rattle.std.proofs.Common.{◌≡◌, ◌↔◌, ℕ, List, false, Contains, map, subst, string_bytes}
use Rattle.rc_source.specs.Kinds.{is_hidden}
use Rattle.rc_source.proofs.Folders.{entries_seen}
use Rattle.rc_source.proofs.read.entries_at.Goals as goal

pub returns-clause-names : goal.returns-clause-names
returns-clause-names g c = λ source known.
    let (is_source, entries) = c.in-Ok.ensures.names source known in
    entries_seen source (map string_bytes c.in-Ok.names.items)
    (map string_bytes c.in_ok-visible.field-0.items) is_source entries c.in_ok-visible.ensures.order
    (subst (λ l. (name : List ℕ) → Contains (map string_bytes c.in_ok-visible.field-0.items) name
    ↔ (Contains (map string_bytes l) name × (is_hidden name ≡ false)))
    c.deref.ensures.value c.in_ok-visible.ensures.names)
