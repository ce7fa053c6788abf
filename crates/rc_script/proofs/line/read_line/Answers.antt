use Rattle.std.proofs.Common.{◌≡◌, ◌∙◌, ℕ, List, false, map, sym, ap}
use denote.Ref.{Bor}
use Rattle.rc_script.specs.Words.{words_in, is_silent}
use Rattle.rc_script.specs.Says.{saying_of}
use Rattle.rc_script.proofs.Sayings.{line_says, line_wrong}
use Rattle.rc_script.proofs.line.read_line.Goals as goal

abbrev text : Bor (List ℕ) → List ℕ
text b = b.now

pub returns-in-Some : goal.returns-in-Some
returns-in-Some c =
    let are : map text c.deref-2.result.now ≡ words_in c.args.line.now =
    ap (map text) c.deref-2.ensures.value ∙ c.in_ok-words.ensures in
    let speaks : is_silent (map text c.deref-2.result.now) ≡ false =
    ap (λ (ws : List (Bor (List ℕ))). is_silent (map text ws))
    (c.deref-2.ensures.value ∙ sym c.deref.ensures.value) ∙ sym c.is_silent.ensures
    ∙ c.if-is_silent.false in
    let found = rw c.in-Some.is at c.in_ok-texts.ensures in
    record {
      said =
          line_says saying_of c.sentence.result c.args.line.now _ _ are speaks
          (ap (map text) c.deref-in-Some.ensures.value ∙ found.0) found.1 c.sentence.ensures;
    }

pub returns : goal.returns
returns c =
    let are : map text c.deref-2.result.now ≡ words_in c.args.line.now =
    ap (map text) c.deref-2.ensures.value ∙ c.in_ok-words.ensures in
    let speaks : is_silent (map text c.deref-2.result.now) ≡ false =
    ap (λ (ws : List (Bor (List ℕ))). is_silent (map text ws))
    (c.deref-2.ensures.value ∙ sym c.deref.ensures.value) ∙ sym c.is_silent.ensures
    ∙ c.if-is_silent.false in
    let found = rw c.in-None.is at c.in_ok-texts.ensures in
    record { said = line_wrong c.args.line.now _ are speaks found }
