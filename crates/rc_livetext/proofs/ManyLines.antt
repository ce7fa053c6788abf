-- Lines that stand on the same bytes are one, up to the last one of a text.
use Rattle.std.proofs.Common.{◌≡◌, ◌∙◌, ℕ, ◌<◌, ◌≤◌, zero, suc, List, [], ◌∷◌, ◌++◌, length, take}
use Rattle.std.proofs.Common.{All, sym, ap, arith, append_assoc}
use Rattle.std.proofs.lemmas.List.Elements.{All-head, All-tail}
use Rattle.rc_dbtext.specs.Form.{spells}
use Rattle.rc_dbtext.proofs.LineWords.{words_once}
use Rattle.rc_livetext.specs.Text.{Line, Last, spell, words}
use Rattle.rc_livetext.proofs.LineWords.{IsSaid, plain_line, line_once}

-- a last line, and no other
abbrev pub AreToLast : List Line → Type 0
AreToLast [] = ⊥
AreToLast (l ∷ []) = l ≡ Last
AreToLast (l ∷ m ∷ rest) = (l ≡ Last → ⊥) × AreToLast (m ∷ rest)

-- one line in front
pub first_once : (l m : Line) (x y : List ℕ) → IsSaid l → IsSaid m → spell l ++ x ≡ spell m ++ y
    → (l ≡ m) × (x ≡ y)
first_once l m x y is_l is_m same =
    let both = words_once (words l) (words m) x y (plain_line l is_l) (plain_line m is_m) same in
    (line_once l m is_l is_m both.0, both.1)

pub first_apart : (l : Line) (ls : List Line) (x : List ℕ)
    → spells spell (l ∷ ls) ++ x ≡ spell l ++ (spells spell ls ++ x)
first_apart l ls x = append_assoc (spell l) (spells spell ls) x

heads_once : (l m : Line) (ls ms : List Line) (x y : List ℕ) → IsSaid l → IsSaid m
    → spells spell (l ∷ ls) ++ x ≡ spells spell (m ∷ ms) ++ y
    → (l ≡ m) × (spells spell ls ++ x ≡ spells spell ms ++ y)
heads_once l m ls ms x y is_l is_m same =
    first_once l m (spells spell ls ++ x) (spells spell ms ++ y) is_l is_m
    (sym (first_apart l ls x) ∙ same ∙ first_apart m ms y)

-- lines up to a last one are read in one way
pub lines_once : (ls ms : List Line) (x y : List ℕ) → All IsSaid ls → All IsSaid ms → AreToLast ls
    → AreToLast ms → spells spell ls ++ x ≡ spells spell ms ++ y → (ls ≡ ms) × (x ≡ y)
lines_once [] ms x y said_l said_m to_l to_m same = absurd to_l
lines_once (l ∷ ls) [] x y said_l said_m to_l to_m same = absurd to_m
lines_once (l ∷ []) (m ∷ []) x y said_l said_m to_l to_m same =
    let both =
    heads_once l m [] [] x y (All-head IsSaid l [] said_l) (All-head IsSaid m [] said_m) same in
    (ap (λ (k : Line). k ∷ []) both.0, both.1)
lines_once (l ∷ []) (m ∷ n ∷ ms) x y said_l said_m to_l to_m same =
    let both = heads_once l m [] (n ∷ ms) x y (All-head IsSaid l [] said_l)
    (All-head IsSaid m (n ∷ ms) said_m) same in
    absurd (to_m.0 (sym both.0 ∙ to_l))
lines_once (l ∷ k ∷ ls) (m ∷ []) x y said_l said_m to_l to_m same =
    let both = heads_once l m (k ∷ ls) [] x y (All-head IsSaid l (k ∷ ls) said_l)
    (All-head IsSaid m [] said_m) same in
    absurd (to_l.0 (both.0 ∙ to_m))
lines_once (l ∷ k ∷ ls) (m ∷ n ∷ ms) x y said_l said_m to_l to_m same =
    let both = heads_once l m (k ∷ ls) (n ∷ ms) x y (All-head IsSaid l (k ∷ ls) said_l)
    (All-head IsSaid m (n ∷ ms) said_m) same in
    let rest = lines_once (k ∷ ls) (n ∷ ms) x y (All-tail IsSaid l (k ∷ ls) said_l)
    (All-tail IsSaid m (n ∷ ms) said_m) to_l.1 to_m.1 both.1 in
    ((λ i. both.0 i ∷ rest.0 i), rest.1)

-- so many lines are read in one way, and so is what follows
pub fronts_once : (n : ℕ) (ls ms : List Line) (x y : List ℕ) → All IsSaid ls → All IsSaid ms
    → n < length ls → n < length ms → spells spell (take n ls) ++ x ≡ spells spell (take n ms) ++ y
    → x ≡ y
fronts_once zero ls ms x y said_l said_m in_l in_m same = same
fronts_once (suc n) [] ms x y said_l said_m in_l in_m same = absurd (omega arith)
fronts_once (suc n) (l ∷ ls) [] x y said_l said_m in_l in_m same = absurd (omega arith)
fronts_once (suc n) (l ∷ ls) (m ∷ ms) x y said_l said_m in_l in_m same =
    let both = heads_once l m (take n ls) (take n ms) x y (All-head IsSaid l ls said_l)
    (All-head IsSaid m ms said_m) same in
    fronts_once n ls ms x y (All-tail IsSaid l ls said_l) (All-tail IsSaid m ms said_m)
    (omega arith) (omega arith) both.1

-- no last line among them
abbrev pub AreInner : List Line → Type 0
AreInner [] = Unit {0}
AreInner (l ∷ ls) = (l ≡ Last → ⊥) × AreInner ls

-- what stands in front of a line of a text holds no last one
pub inner_front : (before : List Line) (due : Line) (after : List Line)
    → AreToLast (before ++ due ∷ after) → AreInner before
inner_front [] due after to = tt
inner_front (l ∷ []) due after to = (to.0, tt)
inner_front (l ∷ m ∷ before) due after to = (to.0, inner_front (m ∷ before) due after to.1)

-- lines up to a last one do not stand where as many lines stand that are none
pub not_within : (ls ms : List Line) (x y : List ℕ) → All IsSaid ls → All IsSaid ms → AreToLast ls
    → AreInner ms → length ls ≤ length ms → spells spell ls ++ x ≡ spells spell ms ++ y → ⊥
not_within [] ms x y said_l said_m to inner long same = to
not_within (l ∷ ls) [] x y said_l said_m to inner long same = omega arith
not_within (l ∷ []) (m ∷ ms) x y said_l said_m to inner long same =
    let both =
    heads_once l m [] ms x y (All-head IsSaid l [] said_l) (All-head IsSaid m ms said_m) same in
    inner.0 (sym both.0 ∙ to)
not_within (l ∷ k ∷ ls) (m ∷ ms) x y said_l said_m to inner long same =
    let both = heads_once l m (k ∷ ls) ms x y (All-head IsSaid l (k ∷ ls) said_l)
    (All-head IsSaid m ms said_m) same in
    not_within (k ∷ ls) ms x y (All-tail IsSaid l (k ∷ ls) said_l) (All-tail IsSaid m ms said_m)
    to.1 inner.1 (omega arith) both.1
