use Rattle.std.proofs.Common.{◌∙◌, sym, ap, subst, string_bytes, slice_get}
use Rattle.std.specs.Option.{IfSome, option_map}
use Rattle.std.proofs.lemmas.Result.{on_ok_weaker, IfOk-weaker}
use Rattle.rc_source.specs.Tree.{file_at}
use Rattle.rc_source.specs.Texts.{IsScriptText, names_in}
use Rattle.rc_source.specs.Kinds.{OneName}
use Rattle.rc_source.specs.Files.{IsWrong}
use Rattle.rc_source.specs.Meaning.{given_in}
use Rattle.rc_source.proofs.Exits.{if_err_weaker}
use Rattle.rc_source.proofs.FileFlaws.{text_passes, read_wrong}
use Rattle.rc_source.proofs.file.one_name_at.Goals as goal

pub returns-in-Some-clause-name : goal.returns-in-Some-clause-name
returns-in-Some-clause-name g c =
    IfOk-weaker c.one_name_in.result _ _
    (λ name same source known. same ∙ ap (λ t. slice_get (names_in t) 0) c.as_str.ensures.value
    ∙ sym (ap (λ o. slice_get (given_in o) 0)
    (c.in_ok-text.ensures.text source known ∙ ap (option_map string_bytes) c.in-Some.is)))
    c.one_name_in.ensures.name

pub returns-in-Some-clause-passes : goal.returns-in-Some-clause-passes
returns-in-Some-clause-passes g c =
    let script : IsScriptText (string_bytes c.in-Some.text) =
    subst (λ o. IfSome o (λ t. IsScriptText (string_bytes t))) c.in-Some.is
    c.in_ok-text.ensures.script in
    on_ok_weaker c.one_name_in.result
    (λ right source known. text_passes OneName (file_at source c.args.entry.now c.args.file.now)
    (string_bytes c.in-Some.text)
    (c.in_ok-text.ensures.text source known ∙ ap (option_map string_bytes) c.in-Some.is) script
    (λ wrong. right (subst (λ t. IsWrong OneName t) (sym c.as_str.ensures.value) wrong)))
    c.one_name_in.ensures.right

pub returns-in-Some-clause-fault : goal.returns-in-Some-clause-fault
returns-in-Some-clause-fault g c =
    let script : IsScriptText (string_bytes c.in-Some.text) =
    subst (λ o. IfSome o (λ t. IsScriptText (string_bytes t))) c.in-Some.is
    c.in_ok-text.ensures.script in
    if_err_weaker c.one_name_in.result _ _
    (λ flaw told no_memory source known. read_wrong OneName
    (file_at source c.args.entry.now c.args.file.now) (string_bytes c.in-Some.text) flaw
    (c.in_ok-text.ensures.text source known ∙ ap (option_map string_bytes) c.in-Some.is) script
    (subst (λ t. IsWrong OneName t) c.as_str.ensures.value (told no_memory).1) (told no_memory).0)
    c.one_name_in.ensures.fault
