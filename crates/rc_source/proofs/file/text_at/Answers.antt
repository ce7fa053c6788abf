use Rattle.std.proofs.Common.{◌≤◌, ◌∙◌, Some, inl, inr, refl, sym, ap, subst, arith, vec_len}
use Rattle.std.specs.Option.{IfSome, option_map}
use Rattle.rc_model.proofs.Results.{no_value}
use Rattle.rc_source.specs.Texts.{IsScriptText}
use Rattle.rc_source.proofs.Exits.{exit}
use Rattle.rc_source.proofs.file.text_at.Goals as goal

pub returns-in_err-text_of-in-Ok-Some-clause-fault :
    goal.returns-in_err-text_of-in-Ok-Some-clause-fault
returns-in_err-text_of-in-Ok-Some-clause-fault g c =
    let told = c.in_err-text_of-in-Ok-Some.ensures.fault in
    let short : vec_len c.in-Ok-Some.bytes ≤ 65536 =
    subst (λ o. IfSome o (λ bytes. vec_len bytes ≤ 65536)) c.in-Ok-Some.field-0-is
    c.in-Ok-Some.ensures.short in
    exit c.from_residual.result c.in_err-text_of-in-Ok-Some.field-0.0 _ c.from_residual.ensures.1
    (λ no_memory source known. inr (
      c.in-Ok-Some.bytes.items,
      c.in-Ok-Some.ensures.file source known ∙ ap (option_map (λ bytes. bytes.items))
          c.in-Ok-Some.field-0-is,
      inr (told.0, (λ long. omega (arith, long, short, c.in-Ok-Some.bytes.ok.0)), told.1),
    ))

pub returns-in_err-text_of-in-Ok-Some-clause-text :
    goal.returns-in_err-text_of-in-Ok-Some-clause-text
returns-in_err-text_of-in-Ok-Some-clause-text g c =
    no_value c.from_residual.result c.in_err-text_of-in-Ok-Some.field-0.0 _
    c.from_residual.ensures.1

pub returns-in_err-text_of-in-Ok-Some-clause-script :
    goal.returns-in_err-text_of-in-Ok-Some-clause-script
returns-in_err-text_of-in-Ok-Some-clause-script g c =
    no_value c.from_residual.result c.in_err-text_of-in-Ok-Some.field-0.0 _
    c.from_residual.ensures.1

pub returns-in_ok-text_of-in-Ok-Some-clause-text : goal.returns-in_ok-text_of-in-Ok-Some-clause-text
returns-in_ok-text_of-in-Ok-Some-clause-text g c = λ source known.
    c.in-Ok-Some.ensures.file source known
    ∙ (ap (option_map (λ bytes. bytes.items)) c.in-Ok-Some.field-0-is
    ∙ ap Some (sym c.in_ok-text_of-in-Ok-Some.ensures.text.0))

pub returns-in_ok-text_of-in-Ok-Some-clause-script :
    goal.returns-in_ok-text_of-in-Ok-Some-clause-script
returns-in_ok-text_of-in-Ok-Some-clause-script g c =
    let short : vec_len c.in-Ok-Some.bytes ≤ 65536 =
    subst (λ o. IfSome o (λ bytes. vec_len bytes ≤ 65536)) c.in-Ok-Some.field-0-is
    c.in-Ok-Some.ensures.short in
    subst IsScriptText (sym c.in_ok-text_of-in-Ok-Some.ensures.text.0)
    (record {
      short = omega (arith, short, c.in-Ok-Some.bytes.ok.0);
      is_text =
          c.in_ok-text_of-in-Ok-Some.ensures.text.1;
    })

pub returns-in-Err-Io-clause-fault : goal.returns-in-Err-Io-clause-fault
returns-in-Err-Io-clause-fault g c = λ other source known. inl refl
