use Rattle.std.proofs.Common.{◌∙◌, sym, ap, subst, All, string_bytes}
use Rattle.std.specs.Option.{IfSome, option_map}
use Rattle.std.proofs.lemmas.Result.{on_ok_weaker}
use Rattle.rc_model.specs.Names.{IsName}
use Rattle.rc_source.specs.Tree.{file_at}
use Rattle.rc_source.specs.Texts.{IsScriptText, names_in}
use Rattle.rc_source.specs.Kinds.{Names}
use Rattle.rc_source.proofs.Exits.{if_err_weaker}
use Rattle.rc_source.proofs.FileFlaws.{text_passes, read_wrong}
use Rattle.rc_source.proofs.file.names_at.Goals as goal

pub returns-in-Some-clause-passes : goal.returns-in-Some-clause-passes
returns-in-Some-clause-passes g c =
    let script : IsScriptText (string_bytes c.in-Some.text) =
    subst (λ o. IfSome o (λ t. IsScriptText (string_bytes t))) c.in-Some.is
    c.in_ok-text.ensures.script in
    on_ok_weaker c.names_of.result
    (λ all source known. text_passes Names (file_at source c.args.entry.now c.args.file.now)
    (string_bytes c.in-Some.text)
    (c.in_ok-text.ensures.text source known ∙ ap (option_map string_bytes) c.in-Some.is) script
    (λ wrong. wrong (subst (λ t. All IsName (names_in t)) c.as_str.ensures.value all)))
    c.names_of.ensures.each

pub returns-in-Some-clause-fault : goal.returns-in-Some-clause-fault
returns-in-Some-clause-fault g c =
    let script : IsScriptText (string_bytes c.in-Some.text) =
    subst (λ o. IfSome o (λ t. IsScriptText (string_bytes t))) c.in-Some.is
    c.in_ok-text.ensures.script in
    if_err_weaker c.names_of.result _ _
    (λ flaw told no_memory source known. read_wrong Names
    (file_at source c.args.entry.now c.args.file.now) (string_bytes c.in-Some.text) flaw
    (c.in_ok-text.ensures.text source known ∙ ap (option_map string_bytes) c.in-Some.is) script
    (λ all. (told no_memory).1
    (subst (λ t. All IsName (names_in t)) (sym c.as_str.ensures.value) all)) (told no_memory).0)
    c.names_of.ensures.fault
