use Rattle.std.proofs.Common.{◌≡◌, ◌∙◌, ◌∷◌, ◌++◌, [], ℕ, List, map, take, ap, sym, subst, All}
use denote.Ref.{Bor}
use Rattle.std.proofs.lemmas.List.{map-append}
use Rattle.std.proofs.lemmas.List.Elements.{All-push}
use Rattle.std.specs.Str.{IsUtf8}
use Rattle.rc_script.proofs.Texts.{image_at, images_more, images_all}
use Rattle.rc_script.proofs.words.texts_of.Goals as goal

abbrev text : Bor (List ℕ) → List ℕ
text b = b.now

pub returns-in-Err : goal.returns-in-Err
returns-in-Err c = λ all. c.in-Err.ensures.cases.0
    (image_at text c.args.words.now c.loop-word.word-index _ c.loop-word-test.true IsUtf8 all)

pub loop-word-preserved : goal.loop-word-preserved
loop-word-preserved c =
    let i = c.loop-word.word-index in
    let found = c.in-Ok.ensures.cases in
    let pushed : c.push.new.self.items ≡ c.loop-word.texts.items ++ c.in-Ok.text ∷ [] =
    c.in_ok-push-in-Ok.ensures.items in
    let images : map text c.push.new.self.items ≡ map text c.loop-word.texts.items
    ++ c.in-Ok.text.now ∷ [] =
    ap (map text) pushed ∙ map-append text c.loop-word.texts.items (c.in-Ok.text ∷ []) in
    record {
      so_far =
          images ∙ ap (λ (l : List (List ℕ)). l ++ c.in-Ok.text.now ∷ [])
          c.loop-word.invariant.so_far
          ∙ ap (λ (n : List ℕ). take i (map text c.args.words.now) ++ n ∷ []) found.0
          ∙ sym (images_more text c.args.words.now i _ c.loop-word-test.true);
      each = subst (λ (l : List (List ℕ)). All IsUtf8 l) (sym images)
          (All-push IsUtf8 (map text c.loop-word.texts.items) c.in-Ok.text.now
          c.loop-word.invariant.each (subst IsUtf8 (sym found.0) found.1));
    }

pub returns : goal.returns
returns c =
    let same : map text c.loop-word.texts.items ≡ map text c.args.words.now =
    c.loop-word.invariant.so_far ∙ images_all text c.args.words.now c.loop-word.word-index
    c.loop-word-test.false in
    (same, subst (λ (l : List (List ℕ)). All IsUtf8 l) same c.loop-word.invariant.each)
