use Rattle.std.proofs.Common.{◌≡◌, ◌∙◌, ℕ, List, All, inl, inr, map, refl, sym, ap, subst}
use denote.Ref.{Bor}
use Rattle.std.specs.Str.{IsUtf8}
use Rattle.rc_script.specs.Words.{words_in}
use Rattle.rc_script.specs.Processes.{process_in}
use Rattle.rc_script.proofs.processes.process_of.Goals as goal

abbrev text : Bor (List ℕ) → List ℕ
text b = b.now

pub returns-in-Some : goal.returns-in-Some
returns-in-Some c =
    let are : map text c.deref.result.now ≡ words_in c.args.line.now =
    ap (map text) c.deref.ensures.value ∙ c.in_ok-words.ensures in
    let found = rw c.in-Some.is at c.in_ok-texts.ensures in
    inl (
      subst (λ (ws : List (List ℕ)). All IsUtf8 ws) are found.1,
      c.process_in.ensures
          ∙ ap (process_in c.args.name.now)
          (ap (map text) c.deref-in-Some.ensures.value ∙ found.0 ∙ are),
    )

pub returns : goal.returns
returns c =
    let are : map text c.deref.result.now ≡ words_in c.args.line.now =
    ap (map text) c.deref.ensures.value ∙ c.in_ok-words.ensures in
    let found = rw c.in-None.is at c.in_ok-texts.ensures in
    inr ((λ all. found (subst (λ (ws : List (List ℕ)). All IsUtf8 ws) (sym are) all)), refl)
