-- Lines of states and where they are cut: the same states with the cursor elsewhere, fronts and
-- backs.
use Rattle.std.proofs.Common.{◌≡◌, ◌≢◌, ◌∙◌, ℕ, suc, List, [], ◌∷◌, ◌++◌, length, take, drop, Some}
use Rattle.std.proofs.Common.{slice_get, All, refl, ap, sym, subst, arith}
use Rattle.rc_model.specs.Line.{State, Line, IsNext, AreStates, DifferInTurn, states, cursor}
use Rattle.std.proofs.lemmas.List.Elements.{All-nil, All-cons, All-append}
use Rattle.rc_model.specs.Database.{IsTable}
use Rattle.rc_model.proofs.Lists.{push_append, all_front, all_back}

pub length_push : (xs : List State) (y : State) → length (xs ++ y ∷ []) ≡ suc (length xs)
length_push [] y = refl
length_push (x ∷ xs) y = ap suc (length_push xs y)

pub take_front : (xs ys : List State) → take (length xs) (xs ++ ys) ≡ xs
take_front [] ys = refl
take_front (x ∷ xs) ys = ap (λ rest. x ∷ rest) (take_front xs ys)

pub drop_front : (xs ys : List State) → drop (length xs) (xs ++ ys) ≡ ys
drop_front [] ys = refl
drop_front (x ∷ xs) ys = drop_front xs ys

pub get_middle : (xs : List State) (y : State) (ys : List State)
    → slice_get (xs ++ y ∷ ys) (length xs) ≡ Some y
get_middle [] y ys = refl
get_middle (x ∷ xs) y ys = get_middle xs y ys

-- the same states, whether the cursor is on one or on the next
pub next_states : (line next : Line) → IsNext line next → states next ≡ states line
next_states line next h =
    ap (λ before. before ++ next.current ∷ next.after) h.left
    ∙ push_append line.before line.current (next.current ∷ next.after)
    ∙ ap (λ after. line.before ++ line.current ∷ after) (sym h.reached)

pub next_cursor : (line next : Line) → IsNext line next → cursor next ≡ suc (cursor line)
next_cursor line next h = ap length h.left ∙ length_push line.before line.current

-- the states up to one of them
pub differ_front : (xs : List State) (y : State) (ys : List State) → DifferInTurn (xs ++ y ∷ ys)
    → DifferInTurn (xs ++ y ∷ [])
differ_front [] y ys h = tt
differ_front (x ∷ []) y ys h = (h.0, tt)
differ_front (x ∷ z ∷ xs) y ys h = (h.0, differ_front (z ∷ xs) y ys h.1)

-- the states from one of them on
pub differ_back : (xs : List State) (y : State) (ys : List State) → DifferInTurn (xs ++ y ∷ ys)
    → DifferInTurn (y ∷ ys)
differ_back [] y ys h = h
differ_back (x ∷ []) y ys h = h.1
differ_back (x ∷ z ∷ xs) y ys h = differ_back (z ∷ xs) y ys h.1

-- both parts together
pub differ_join : (xs : List State) (y : State) (ys : List State) → DifferInTurn (xs ++ y ∷ [])
    → DifferInTurn (y ∷ ys) → DifferInTurn (xs ++ y ∷ ys)
differ_join [] y ys front back = back
differ_join (x ∷ []) y ys front back = (front.0, back)
differ_join (x ∷ z ∷ xs) y ys front back = (front.0, differ_join (z ∷ xs) y ys front.1 back)

head_of : State → List State → State
head_of d [] = d
head_of d (x ∷ xs) = x

tail_of : List State → List State
tail_of [] = []
tail_of (x ∷ xs) = xs

pub cons_head : (x y : State) (xs ys : List State) → x ∷ xs ≡ y ∷ ys → x ≡ y
unfolding head_of
cons_head x y xs ys same = ap (head_of x) same

pub cons_tail : (x y : State) (xs ys : List State) → x ∷ xs ≡ y ∷ ys → xs ≡ ys
unfolding tail_of
cons_tail x y xs ys same = ap tail_of same

-- lists that are cut at one place
pub one_cut : (xs ys : List State) (x y : State) (us vs : List State) → length xs ≡ length ys
    → xs ++ x ∷ us ≡ ys ++ y ∷ vs → (xs ≡ ys) × (x ≡ y) × (us ≡ vs)
one_cut [] [] x y us vs bound same = (refl, cons_head x y us vs same, cons_tail x y us vs same)
one_cut [] (b ∷ ys) x y us vs bound same = absurd (omega arith)
one_cut (a ∷ xs) [] x y us vs bound same = absurd (omega arith)
one_cut (a ∷ xs) (b ∷ ys) x y us vs bound same =
    let rest =
    one_cut xs ys x y us vs (omega arith) (cons_tail a b (xs ++ x ∷ us) (ys ++ y ∷ vs) same) in (
      ap (λ h. h ∷ xs) (cons_head a b (xs ++ x ∷ us) (ys ++ y ∷ vs) same) ∙ ap (λ t. b ∷ t) rest.0,
      rest.1,
      rest.2,
    )

-- a line is its states and the place of its cursor
pub one_line : (a b : Line) → states a ≡ states b → cursor a ≡ cursor b → a.bound ≡ b.bound → a ≡ b
one_line a b same place bound =
    let parts = one_cut a.before b.before a.current b.current a.after b.after place same in
    λ k. record { before = parts.0 k; current = parts.1 k; after = parts.2 k; bound = bound k }

pub all_to : (P : State → Type 0) (xs : List State) (y : State) (ys : List State)
    → All P (xs ++ y ∷ ys) → All P (xs ++ y ∷ [])
all_to P xs y ys h =
    all_front P (xs ++ y ∷ []) ys (subst (λ all. All P all) (sym (push_append xs y ys)) h)

all_join : (P : State → Type 0) (xs : List State) (y : State) (ys : List State)
    → All P (xs ++ y ∷ []) → All P (y ∷ ys) → All P (xs ++ y ∷ ys)
all_join P xs y ys front back = All-append P xs (y ∷ ys) (all_front P xs (y ∷ []) front) back

-- the states of a line up to one of them
pub states_front : (bound : ℕ) (xs : List State) (y : State) (ys : List State)
    → AreStates bound (xs ++ y ∷ ys) → AreStates bound (xs ++ y ∷ [])
states_front bound xs y ys h = record {
  differ = differ_front xs y ys h.differ;
  bounds = all_to (λ s. length s.live ≡ bound) xs y ys h.bounds;
  tables = all_to (λ s. IsTable s.table) xs y ys h.tables;
}

-- the states from one of them on
pub states_back : (bound : ℕ) (xs : List State) (y : State) (ys : List State)
    → AreStates bound (xs ++ y ∷ ys) → AreStates bound (y ∷ ys)
states_back bound xs y ys h = record {
  differ = differ_back xs y ys h.differ;
  bounds = all_back (λ s. length s.live ≡ bound) xs (y ∷ ys) h.bounds;
  tables = all_back (λ s. IsTable s.table) xs (y ∷ ys) h.tables;
}

-- both parts together
pub states_join : (bound : ℕ) (xs : List State) (y : State) (ys : List State)
    → AreStates bound (xs ++ y ∷ []) → AreStates bound (y ∷ ys) → AreStates bound (xs ++ y ∷ ys)
states_join bound xs y ys front back = record {
  differ = differ_join xs y ys front.differ back.differ;
  bounds = all_join (λ s. length s.live ≡ bound) xs y ys front.bounds back.bounds;
  tables = all_join (λ s. IsTable s.table) xs y ys front.tables back.tables;
}

-- one state by itself
pub states_one : (bound : ℕ) (y : State) → length y.live ≡ bound → IsTable y.table
    → AreStates bound (y ∷ [])
states_one bound y same table = record {
  differ = tt;
  bounds = All-cons (λ s. length s.live ≡ bound) y [] same (All-nil (λ s. length s.live ≡ bound));
  tables = All-cons (λ s. IsTable s.table) y [] table (All-nil (λ s. IsTable s.table));
}

-- one state more in front
pub states_more : (bound : ℕ) (x y : State) (ys : List State) → length x.live ≡ bound
    → IsTable x.table → x ≢ y → AreStates bound (y ∷ ys) → AreStates bound (x ∷ y ∷ ys)
states_more bound x y ys same table differ h = record {
  differ = (differ, h.differ);
  bounds = All-cons (λ s. length s.live ≡ bound) x (y ∷ ys) same h.bounds;
  tables = All-cons (λ s. IsTable s.table) x (y ∷ ys) table h.tables;
}

-- the first of some states
pub states_first : (bound : ℕ) (y : State) (ys : List State) → AreStates bound (y ∷ ys)
    → (length y.live ≡ bound) × IsTable y.table
states_first bound y ys h = (h.bounds 0 y (omega arith), h.tables 0 y (omega arith))

differ_less_last : (held : List State) (gone : State) → DifferInTurn (held ++ gone ∷ [])
    → DifferInTurn held
differ_less_last [] gone h = tt
differ_less_last (a ∷ []) gone h = tt
differ_less_last (a ∷ b ∷ rest) gone h = (h.0, differ_less_last (b ∷ rest) gone h.1)

differ_less_first : (gone : State) (held : List State) → DifferInTurn (gone ∷ held)
    → DifferInTurn held
differ_less_first gone [] h = tt
differ_less_first gone (a ∷ rest) h = h.1

-- the states without the last one
pub states_less_last : (bound : ℕ) (held : List State) (gone : State)
    → AreStates bound (held ++ gone ∷ []) → AreStates bound held
states_less_last bound held gone h = record {
  differ = differ_less_last held gone h.differ;
  bounds = all_front (λ s. length s.live ≡ bound) held (gone ∷ []) h.bounds;
  tables = all_front (λ s. IsTable s.table) held (gone ∷ []) h.tables;
}

-- the states without the first one
pub states_less_first : (bound : ℕ) (gone : State) (held : List State)
    → AreStates bound (gone ∷ held) → AreStates bound held
states_less_first bound gone held h = record {
  differ = differ_less_first gone held h.differ;
  bounds = all_back (λ s. length s.live ≡ bound) (gone ∷ []) held h.bounds;
  tables = all_back (λ s. IsTable s.table) (gone ∷ []) held h.tables;
}
