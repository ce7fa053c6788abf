use Rattle.std.proofs.Common.{◌≡◌, ◌∙◌, ℕ, List, map, ap, sym, subst, All}
use denote.Ref.{Bor}
use Rattle.std.specs.Str.{IsUtf8}
use Rattle.rc_script.specs.Words.{words_in}
use Rattle.rc_args.proofs.TextWords.{words_texts}
use Rattle.rc_args.proofs.program_words.spaced.Goals as goal

abbrev text : Bor (List ℕ) → List ℕ
text b = b.now

pub unreachable-requires : goal.unreachable-requires
unreachable-requires c =
    let are : map text c.deref.result.now ≡ words_in c.as_bytes.result.now =
    ap (map text) c.deref.ensures.value ∙ c.in_ok-words.ensures in
    let never : All IsUtf8 (map text c.deref.result.now) → ⊥ =
    rw c.in-None.is at c.in_ok-texts.ensures in
    never (subst (λ (ws : List (List ℕ)). All IsUtf8 ws) (sym are)
    (words_texts c.as_bytes.result.now c.as_bytes.ensures.utf8))
