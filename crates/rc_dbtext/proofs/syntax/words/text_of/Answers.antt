use Rattle.std.proofs.Common.{◌≡◌, ◌∙◌, ◌++◌, ◌∷◌, [], ℕ, List, length, take, arith, append_assoc}
use Rattle.std.proofs.Common.{ap, sym, subst}
use Rattle.std.proofs.lemmas.List.{take-append-le, take_all}
use Rattle.rc_db.specs.Service.{IsScript}
use Rattle.rc_dbtext.proofs.syntax.words.text_of.Goals as goal

-- the text that is cut is the one that is copied
copied : (bytes text cut rest : List ℕ) (long : ℕ)
    → (length cut ≡ long) × (bytes ≡ cut ++ 10 ∷ [] ++ rest) → (text ≡ cut) × IsScript cut
    → IsScript text × (length text ≡ long) × (bytes ≡ text ++ 10 ∷ [] ++ rest)
copied bytes text cut rest long (long_is, is) (same, script) = (
  subst IsScript (sym same) script,
  ap length same ∙ long_is,
  is ∙ ap (λ (t : List ℕ). t ++ 10 ∷ [] ++ rest) (sym same),
)

-- texts of one length in front of one text are one
only : (bytes cut rest text more : List ℕ) (long : ℕ)
    → (length cut ≡ long) × (bytes ≡ cut ++ 10 ∷ [] ++ rest) → length text ≡ long
    → bytes ≡ text ++ 10 ∷ [] ++ more → text ≡ cut
only bytes cut rest text more long (cut_long, is_cut) text_long is_text =
    let front : (t r : List ℕ) → length t ≡ long → take long (t ++ 10 ∷ [] ++ r) ≡ t =
    λ t r same. ap (take long) (append_assoc t (10 ∷ []) r)
    ∙ (take-append-le long t (10 ∷ r) (omega (arith, same))
    ∙ take_all long t (omega (arith, same))) in
    sym (front text more text_long)
    ∙ (ap (take long) (sym is_text ∙ is_cut) ∙ front cut rest cut_long)

pub returns-in_default : goal.returns-in_default
returns-in_default c = λ text rest script long is. c.in_default.ensures text rest long is

pub returns-in-Some-script_of : goal.returns-in-Some-script_of
returns-in-Some-script_of c =
    copied c.args.bytes.now c.in-Some-script_of.text.now c.in-Some.text.now c.in-Some.rest.now
    c.args.long c.in-Some.ensures c.in-Some-script_of.ensures

pub returns-in-None : goal.returns-in-None
returns-in-None c = λ text rest script long is.
    c.in-None.ensures (subst IsScript (only c.args.bytes.now c.in-Some.text.now c.in-Some.rest.now
    text rest c.args.long c.in-Some.ensures long is) script)
