use Rattle.std.proofs.Common.{◌≡◌, ◌∙◌, ◌↔◌, ℕ, List, false, Contains, map, sym, ap, subst}
use Rattle.std.proofs.Common.{string_bytes}
use Rattle.std.proofs.lemmas.Result.{IfOk-weaker}
use Rattle.rc_source.specs.Kinds.{is_hidden}
use Rattle.rc_source.proofs.Exits.{if_err_weaker}
use Rattle.rc_source.proofs.folder.visible_names.Goals as goal

pub returns-clause-names : goal.returns-clause-names
returns-clause-names c = IfOk-weaker c.names_from.result _ _
    (λ names same. subst (λ l. (name : List ℕ)
    → Contains l name
    ↔ (Contains (map string_bytes c.args.names.now) name × (is_hidden name ≡ false)))
    (sym (same ∙ ap (map string_bytes) c.deref.ensures.value)) c.in_ok-seen.ensures.names)
    c.names_from.ensures.names

pub returns-clause-fault : goal.returns-clause-fault
returns-clause-fault c = if_err_weaker c.names_from.result _ _
    (λ flaw told no_memory.
    let (name, there, not_name) = (told no_memory).1 in
    let both = (c.in_ok-seen.ensures.names name).0
    (subst (λ l. Contains (map string_bytes l) name) c.deref.ensures.value there) in
    ((told no_memory).0, (name, both.0, both.1, not_name)))
    c.names_from.ensures.fault
