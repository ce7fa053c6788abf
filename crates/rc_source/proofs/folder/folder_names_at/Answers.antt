use Rattle.std.proofs.Common.{◌↔◌, ℕ, List, Contains, All, map, sym, subst, string_bytes}
use Rattle.std.specs.Option.{option_map}
use Rattle.std.proofs.lemmas.Result.{IfOk-weaker}
use Rattle.rc_model.specs.Names.{IsName}
use Rattle.rc_source.specs.Tree.{IsListing, names_next}
use Rattle.rc_source.proofs.Exits.{if_err_weaker}
use Rattle.rc_source.proofs.Folders.{folder_gives, folder_passes, folder_stops, on_ok_both}
use Rattle.rc_source.proofs.folder.folder_names_at.Goals as goal

pub returns-in-Ok-Some-clause-names : goal.returns-in-Ok-Some-clause-names
returns-in-Ok-Some-clause-names g c = IfOk-weaker c.visible_names.result _ _
    (λ names gives source known. folder_gives (names_next source c.args.entry.now c.args.folder.now)
    (map string_bytes c.deref.result.now) names.items
    (subst (λ l. (name : List ℕ)
    → Contains (map string_bytes l) name
    ↔ Contains (names_next source c.args.entry.now c.args.folder.now) name)
    (sym c.deref.ensures.value)
    (subst (λ o. IsListing source c.args.entry.now c.args.folder.now
    (option_map (λ names. map string_bytes names.items) o)) c.in-Ok-Some.field-0-is
    (c.in-Ok-Some.ensures.names source known)).1)
    gives)
    c.visible_names.ensures.names

pub returns-in-Ok-Some-clause-passes : goal.returns-in-Ok-Some-clause-passes
returns-in-Ok-Some-clause-passes g c =
    on_ok_both c.visible_names.result _ (λ names. All IsName names.items) _
    (λ names gives each source known. folder_passes source c.args.entry.now c.args.folder.now
    names.items (gives source known) each)
    (returns-in-Ok-Some-clause-names g c) c.visible_names.ensures.each

pub returns-in-Ok-Some-clause-fault : goal.returns-in-Ok-Some-clause-fault
returns-in-Ok-Some-clause-fault g c = if_err_weaker c.visible_names.result _ _
    (λ flaw told no_memory source known. folder_stops source c.args.entry.now c.args.folder.now
    (map string_bytes c.deref.result.now)
    (subst (λ l. (name : List ℕ)
    → Contains (map string_bytes l) name
    ↔ Contains (names_next source c.args.entry.now c.args.folder.now) name)
    (sym c.deref.ensures.value)
    (subst (λ o. IsListing source c.args.entry.now c.args.folder.now
    (option_map (λ names. map string_bytes names.items) o)) c.in-Ok-Some.field-0-is
    (c.in-Ok-Some.ensures.names source known)).1)
    flaw (told no_memory).0 (told no_memory).1)
    c.visible_names.ensures.fault
