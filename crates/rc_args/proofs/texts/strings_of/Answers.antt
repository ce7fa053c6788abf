use Rattle.std.proofs.Common.{◌∙◌, ◌∷◌, ◌++◌, [], ℕ, List, Bor, ap, map, string_bytes, sym, take}
use Rattle.rc_db.proofs.Listing.{shown_more}
use Rattle.rc_model.proofs.Mapped.{mapped_more}
use Rattle.rc_args.proofs.texts.strings_of.Goals as goal

-- what stands past the end of the words
abbrev none : Bor (List ℕ)
none = record { ref_ptr = (0, 0); now = [] }

pub loop-word-preserved : goal.loop-word-preserved
loop-word-preserved c =
    let words : List (List ℕ) = map (λ w. w.now) c.args.words.now in
    let i : ℕ = c.loop-word.word-index in
    shown_more string_bytes c.loop-word.strings.items c.push.new.self.items c.in_ok-string.string
    c.in_ok-push.ensures.items
    ∙ (ap (λ (xs : List (List ℕ)). xs ++ string_bytes c.in_ok-string.string ∷ [])
    c.loop-word.invariant
    ∙ (ap (λ (x : List ℕ). take i words ++ x ∷ []) c.in_ok-string.ensures.ok
    ∙ sym (mapped_more (λ w. w.now) c.args.words.now i none c.loop-word-test.true)))
