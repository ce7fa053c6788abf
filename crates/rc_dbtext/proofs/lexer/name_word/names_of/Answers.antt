use Rattle.std.proofs.Common.{◌≡◌, ◌∙◌, ◌++◌, ◌∷◌, [], List, ℕ, All, ap, sym, subst, append_assoc}
use Rattle.std.proofs.lemmas.List.Elements.{All-push}
use Rattle.rc_model.specs.Names.{IsName}
use Rattle.rc_dbtext.proofs.Taking.{one_of}
use Rattle.rc_dbtext.proofs.lexer.name_word.names_of.Goals as goal

pub returns-in-None : goal.returns-in-None
returns-in-None c = λ all.
    let P : List (List ℕ) → Type 0 = λ words. All IsName words in
    c.in-None.ensures
    (one_of IsName c.loop-word.names.items c.next_word.new.self c.in-Some.word.now
    (subst P (c.loop-word.invariant.so_far
    ∙ ap (λ (l : List (List ℕ)). c.loop-word.names.items ++ l) c.in-Some.ensures) all))

pub loop-word-preserved : goal.loop-word-preserved
loop-word-preserved c =
    let found = c.in-Some-read.ensures in
    let pushed : c.push.new.self.items ≡ c.loop-word.names.items ++ c.in-Some-read.name ∷ [] =
    c.in_ok-push-in-Some-read.ensures.items in
    let P : List (List ℕ) → Type 0 = λ names. All IsName names in
    record {
      so_far = c.loop-word.invariant.so_far
          ∙ ap (λ (l : List (List ℕ)). c.loop-word.names.items ++ l) c.in-Some.ensures
          ∙ sym (append_assoc c.loop-word.names.items (c.in-Some.word.now ∷ [])
          c.next_word.new.self)
          ∙ ap (λ (n : List ℕ). (c.loop-word.names.items ++ n ∷ []) ++ c.next_word.new.self)
          (sym found.0)
          ∙ ap (λ (l : List (List ℕ)). l ++ c.next_word.new.self) (sym pushed);
      each = subst P (sym pushed) (All-push IsName c.loop-word.names.items c.in-Some-read.name
          c.loop-word.invariant.each (subst IsName (sym found.0) found.1));
    }
