-- A line has one neighbour on each side.
use Rattle.std.proofs.Common.{◌≡◌, ◌∙◌, suc, List, [], ◌∷◌, ◌++◌, length, refl, ap, sym, arith}
use Rattle.rc_model.specs.Line.{State, Line, IsNext}
use Rattle.rc_model.proofs.Lines.{length_push, cons_head, cons_tail}
use Rattle.rc_line.proofs.Closings.{same_line, last_same}

-- all but the last of two equal lists
pub push_front : (xs ys : List State) (x y : State) → xs ++ x ∷ [] ≡ ys ++ y ∷ [] → xs ≡ ys
push_front [] [] x y same = refl
push_front [] (b ∷ ys) x y same = let lengths : 1 ≡ suc (length (ys ++ y ∷ [])) = ap length same in
    absurd (omega (arith, lengths, length_push ys y))
push_front (a ∷ xs) [] x y same = let lengths : suc (length (xs ++ x ∷ [])) ≡ 1 = ap length same in
    absurd (omega (arith, lengths, length_push xs x))
push_front (a ∷ xs) (b ∷ ys) x y same =
    ap (λ h. h ∷ xs) (cons_head a b (xs ++ x ∷ []) (ys ++ y ∷ []) same)
    ∙ ap (λ rest. b ∷ rest)
    (push_front xs ys x y (cons_tail a b (xs ++ x ∷ []) (ys ++ y ∷ []) same))

-- the line before is one
pub one_back : (a b line : Line) → IsNext a line → IsNext b line → a ≡ b
one_back a b line ha hb =
    let same : a.before ++ a.current ∷ [] ≡ b.before ++ b.current ∷ [] = sym ha.left ∙ hb.left in
    same_line a b (push_front a.before b.before a.current b.current same)
    (last_same a.before b.before a.current b.current same) (ha.reached ∙ sym hb.reached)
    (sym ha.bound ∙ hb.bound)

-- and so is the line after
pub one_on : (line a b : Line) → IsNext line a → IsNext line b → a ≡ b
one_on line a b ha hb =
    let same : a.current ∷ a.after ≡ b.current ∷ b.after = sym ha.reached ∙ hb.reached in
    same_line a b (ha.left ∙ sym hb.left) (cons_head a.current b.current a.after b.after same)
    (cons_tail a.current b.current a.after b.after same) (ha.bound ∙ sym hb.bound)
