use Rattle.std.proofs.Common.{◌∙◌, [], ◌∷◌, ◌++◌, ℕ, List, ap, map}
use Rattle.rc_dbtext.specs.Lines.{words_after_spaces}
use Rattle.rc_dbtext.specs.Spelling.{members, name_at}
use Rattle.rc_dbtext.proofs.LineLemmas.{line_of}
use Rattle.rc_livetext.specs.Text.{state_word}
use Rattle.rc_livetext.proofs.write.push_live.Goals as goal

pub returns : goal.returns
returns c =
    let names : List (List ℕ) = map (name_at c.args.names.now) (members c.args.live.now) in
    c.in_ok-extend_from_slice-2.ensures.items
    ∙ (ap (λ (t : List ℕ). t ++ 10 ∷ []) (c.in_ok-push_set.ensures.written
    ∙ ap (λ (t : List ℕ). t ++ words_after_spaces names)
    (c.in_ok-extend_from_slice.ensures.items ∙ ap (λ (t : List ℕ). c.args.out.now.items ++ t)
    c.word_of.ensures))
    ∙ line_of c.args.out.now.items (state_word c.args.current) names)
