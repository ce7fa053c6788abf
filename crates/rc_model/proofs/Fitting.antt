-- What fitting a line to its bound leaves of it.
use Rattle.std.proofs.Common.{◌≡◌, ◌∙◌, ◌⊎◌, ℕ, ◌+◌, ◌<◌, ◌≤◌, ◌^◌, suc, Bool, List, [], ◌∷◌, ◌++◌}
use Rattle.std.proofs.Common.{length, inl, inr, All, refl, ap, sym, subst, arith, length-append}
use Rattle.std.proofs.Common.{append_assoc}
use Rattle.std.specs.Prelude.{if◌then◌else◌}
use Rattle.std.proofs.lemmas.Bool.{cases_lt, lt-ltb, le-ltb}
use Rattle.std.proofs.lemmas.List.Elements.{All-head, All-tail, All-nil, All-cons}
use Rattle.rc_model.specs.Line.{State, Line, IsLine, IsNext, AreStates, states, cursor, but_last}
use Rattle.rc_model.specs.Line.{shorter, within_bound}
use Rattle.rc_model.proofs.Lines.{states_less_first, states_less_last}

-- within the bound nothing goes
pub fitted_short : (line : Line) → length (states line) ≤ line.bound → within_bound line ≡ line
fitted_short line few =
    ap (λ (b : Bool). if b then shorter line.before line else line)
    (le-ltb line.bound (length (states line)) few)

pub fitted_long : (line : Line) → line.bound < length (states line)
    → within_bound line ≡ shorter line.before line
fitted_long line many =
    ap (λ (b : Bool). if b then shorter line.before line else line)
    (lt-ltb line.bound (length (states line)) many)

-- the last of some states, and those before it
pub last_apart : (a : State) (rest : List State)
    → (last : State) × (a ∷ rest ≡ but_last (a ∷ rest) ++ last ∷ [])
last_apart a [] = (a, refl)
last_apart a (b ∷ rest) =
    let more = last_apart b rest in (more.0, ap (λ (l : List State). a ∷ l) more.1)

shorter_current : (before : List State) (line : Line) → (shorter before line).current ≡ line.current
shorter_current [] line = refl
shorter_current (a ∷ []) line = refl
shorter_current (a ∷ b ∷ rest) line = refl

shorter_bound : (before : List State) (line : Line) → (shorter before line).bound ≡ line.bound
shorter_bound [] line = refl
shorter_bound (a ∷ []) line = refl
shorter_bound (a ∷ b ∷ rest) line = refl

pub fitted_current : (line : Line) → (within_bound line).current ≡ line.current
fitted_current line = elim (cases_lt line.bound (length (states line))) [
  | inl many ↦
      ap (λ (l : Line). l.current) (fitted_long line many) ∙ shorter_current line.before line
  | inr few ↦ ap (λ (l : Line). l.current) (fitted_short line few)
]

pub fitted_bound : (line : Line) → (within_bound line).bound ≡ line.bound
fitted_bound line = elim (cases_lt line.bound (length (states line))) [
  | inl many ↦ ap (λ (l : Line). l.bound) (fitted_long line many) ∙ shorter_bound line.before line
  | inr few ↦ ap (λ (l : Line). l.bound) (fitted_short line few)
]

-- the two ways in which a line gets shorter
pub shorter_first : (line : Line) (gone : State) (rest : List State) → 1 ≤ length rest
    → shorter (gone ∷ rest) line ≡ record line { before = rest }
shorter_first line gone [] some = absurd (omega arith)
shorter_first line gone (a ∷ rest) some = refl

pub shorter_last : (line : Line) (before : List State) → length before < 2
    → shorter before line ≡ record line { after = but_last line.after }
shorter_last line [] few = refl
shorter_last line (a ∷ []) few = refl
shorter_last line (a ∷ b ∷ rest) few = absurd (omega arith)

pub but_last_push : (ss : List State) (x : State) → but_last (ss ++ x ∷ []) ≡ ss
but_last_push [] x = refl
but_last_push (a ∷ []) x = refl
but_last_push (a ∷ b ∷ ss) x = ap (λ (l : List State). a ∷ l) (but_last_push (b ∷ ss) x)

-- how a line loses a state: its oldest one, after which another stands before the current one; or
-- its last one, in front of which another stands after the current one
pub data Loses (line new : Line) : Type 0 where
  Oldest : (gone next : State) (rest : List State) → (line.before ≡ gone ∷ next ∷ rest)
      → (new ≡ record line { before = next ∷ rest }) → Loses line new
  Last : (gone on : State) (rest : List State) → (line.after ≡ on ∷ (rest ++ gone ∷ []))
      → (new ≡ record line { after = on ∷ rest }) → length line.before < 2 → Loses line new

size_of : (line : Line) → length (states line) ≡ length line.before + 1 + length line.after
size_of line = omega (arith, length-append line.before (line.current ∷ line.after))

-- at least two states stand after the current one
lose_last : (line : Line) (after : List State) → line.after ≡ after → 2 ≤ length after
    → length line.before < 2 → Loses line (record line { after = but_last line.after })
lose_last line [] is some few = absurd (omega arith)
lose_last line (a ∷ []) is some few = absurd (omega arith)
lose_last line (a ∷ b ∷ rest) is some few =
    let parts = last_apart b rest in
    Last parts.0 a (but_last (b ∷ rest)) (is ∙ ap (λ (l : List State). a ∷ l) parts.1)
    (ap (λ (l : List State). record line { after = but_last l }) is) few

loses_by : (line : Line) (before : List State) → line.before ≡ before → 3 ≤ line.bound
    → line.bound < length (states line) → Loses line (shorter before line)
loses_by line [] is three many =
    lose_last line line.after refl (omega (arith, size_of line, ap length is))
    (omega (arith, ap length is))
loses_by line (a ∷ []) is three many =
    lose_last line line.after refl (omega (arith, size_of line, ap length is))
    (omega (arith, ap length is))
loses_by line (a ∷ b ∷ rest) is three many = Oldest a b rest is refl

-- a line with one state too many loses one
pub loses_one : (line : Line) → 3 ≤ line.bound → line.bound < length (states line)
    → Loses line (within_bound line)
loses_one line three many =
    subst (Loses line) (sym (fitted_long line many)) (loses_by line line.before refl three many)

-- the states of a line of whose states one is lost
abbrev pub FirstGoes : Line → Line → Type 0
FirstGoes line new = (gone : State) × (states line ≡ gone ∷ states new)
    × (cursor line ≡ suc (cursor new)) × (2 ≤ cursor line)

abbrev pub LastGoes : Line → Line → Type 0
LastGoes line new = (gone : State) × (states line ≡ states new ++ gone ∷ [])
    × (cursor new ≡ cursor line) × (cursor line < 2)

pub one_goes : (line new : Line) → Loses line new → FirstGoes line new ⊎ LastGoes line new
one_goes line new (Oldest gone next rest is made) = inl (
  gone,
  ap (λ (l : List State). l ++ line.current ∷ line.after) is
      ∙ ap (λ (l : Line). gone ∷ states l) (sym made),
  ap length is ∙ ap (λ (l : Line). suc (cursor l)) (sym made),
  omega (arith, ap length is),
)
one_goes line new (Last gone on rest is made few) = inr (
  gone,
  ap (λ (l : List State). line.before ++ line.current ∷ l) is
      ∙ sym (append_assoc line.before (line.current ∷ on ∷ rest) (gone ∷ []))
      ∙ ap (λ (l : Line). states l ++ gone ∷ []) (sym made),
  ap cursor made,
  few,
)

-- what stands before the current state but the first
but_first : (gone next : State) (rest before : List State) (last : State)
    → gone ∷ next ∷ rest ≡ before ++ last ∷ []
    → (left : List State) × (next ∷ rest ≡ left ++ last ∷ [])
but_first gone next rest [] last same = absurd (omega (arith, ap length same))
but_first gone next rest (x ∷ left) last same = (left, cc)

-- the state before the current one stays
pub keeps_back : (line new back : Line) → Loses line new → IsNext back line
    → (other : Line) × IsNext other new × (other.current ≡ back.current)
keeps_back line new back (Oldest gone next rest is made) at =
    let front = but_first gone next rest back.before back.current (sym is ∙ at.left) in (
      record {
        before = front.0;
        current = back.current;
        after = new.current ∷ new.after;
        bound = new.bound;
      },
      record { left = ap (λ (l : Line). l.before) made ∙ front.1; reached = refl; bound = refl },
      refl,
    )
keeps_back line new back (Last gone on rest is made few) at = (
  record {
    before = back.before;
    current = back.current;
    after = new.current ∷ new.after;
    bound = new.bound;
  },
  record { left = ap (λ (l : Line). l.before) made ∙ at.left; reached = refl; bound = refl },
  refl,
)

-- and so does the one after it
pub keeps_on : (line new on : Line) → Loses line new → IsNext line on
    → (other : Line) × IsNext new other × (other.current ≡ on.current)
keeps_on line new on (Oldest gone next rest is made) at = (
  record {
    before = new.before ++ new.current ∷ [];
    current = on.current;
    after =
        on.after;
    bound = new.bound;
  },
  record { left = refl; reached = ap (λ (l : Line). l.after) made ∙ at.reached; bound = refl },
  refl,
)
keeps_on line new on (Last gone first rest is made few) at =
    let both : first ∷ (rest ++ gone ∷ []) ≡ on.current ∷ on.after = sym is ∙ at.reached in
    let same : first ≡ on.current = cc in (
      record {
        before = new.before ++ new.current ∷ [];
        current = on.current;
        after =
            rest;
        bound = new.bound;
      },
      record {
        left = refl;
        reached =
            ap (λ (l : Line). l.after) made ∙ ap (λ (s : State). s ∷ rest) same;
        bound = refl;
      },
      refl,
    )

-- what was first or last still is
pub keeps_first : (line new : Line) → Loses line new → line.before ≡ [] → new.before ≡ []
keeps_first line new (Oldest gone next rest is made) none =
    absurd (omega (arith, ap length is, ap length none))
keeps_first line new (Last gone on rest is made few) none = ap (λ (l : Line). l.before) made ∙ none

pub keeps_last : (line new : Line) → Loses line new → line.after ≡ [] → new.after ≡ []
keeps_last line new (Oldest gone next rest is made) none = ap (λ (l : Line). l.after) made ∙ none
keeps_last line new (Last gone on rest is made few) none =
    absurd (omega (arith, ap length is, ap length none))

-- the states that are left are such still
pub less_states : (bound : ℕ) (line new : Line) → Loses line new → AreStates bound (states line)
    → AreStates bound (states new)
less_states bound line new loses held = elim (one_goes line new loses) [
  | inl (gone, is, place, far) ↦
      states_less_first bound gone (states new) (subst (AreStates bound) is held)
  | inr (gone, is, place, near) ↦
      states_less_last bound (states new) gone (subst (AreStates bound) is held)
]

pub less_size : (line new : Line) → Loses line new
    → length (states line) ≡ suc (length (states new))
less_size line new loses = elim (one_goes line new loses) [
  | inl (gone, is, place, far) ↦ ap length is
  | inr (gone, is, place, near) ↦
      omega (arith, ap length is, length-append (states new) (gone ∷ []))
]

-- the two cases of a line, by its states
pub fitted_cases : (line : Line) → 3 ≤ line.bound
    → (within_bound line ≡ line)
    ⊎ ((line.bound < length (states line)) × Loses line (within_bound line))
fitted_cases line three = elim (cases_lt line.bound (length (states line))) [
  | inl many ↦ inr (many, loses_one line three many)
  | inr few ↦ inl (fitted_short line few)
]

pub fitted_either : (line : Line) → 3 ≤ line.bound
    → (within_bound line ≡ line) ⊎ Loses line (within_bound line)
fitted_either line three = elim (fitted_cases line three) [
  | inl same ↦ inl same
  | inr (many, loses) ↦ inr loses
]

pub fitted_states : (bound : ℕ) (line : Line) → 3 ≤ line.bound → AreStates bound (states line)
    → AreStates bound (states (within_bound line))
fitted_states bound line three held = elim (fitted_either line three) [
  | inl same ↦ subst (λ (l : Line). AreStates bound (states l)) (sym same) held
  | inr loses ↦ less_states bound line (within_bound line) loses held
]

-- with at most one state too many, none is too many then
pub fitted_few : (line : Line) → 3 ≤ line.bound → length (states line) ≤ line.bound + 1
    → length (states (within_bound line)) ≤ line.bound
fitted_few line three most = elim (cases_lt line.bound (length (states line))) [
  | inl many ↦ omega (arith, less_size line (within_bound line) (loses_one line three many))
  | inr few ↦ omega (arith, ap (λ (l : Line). length (states l)) (fitted_short line few))
]

pub fitted_back : (line back : Line) → 3 ≤ line.bound → IsNext back line
    → (other : Line) × IsNext other (within_bound line) × (other.current ≡ back.current)
fitted_back line back three at = elim (fitted_either line three) [
  | inl same ↦ (back, subst (IsNext back) (sym same) at, refl)
  | inr loses ↦ keeps_back line (within_bound line) back loses at
]

pub fitted_on : (line on : Line) → 3 ≤ line.bound → IsNext line on
    → (other : Line) × IsNext (within_bound line) other × (other.current ≡ on.current)
fitted_on line on three at = elim (fitted_either line three) [
  | inl same ↦ (on, subst (λ (l : Line). IsNext l on) (sym same) at, refl)
  | inr loses ↦ keeps_on line (within_bound line) on loses at
]

-- a line, but for one state too many
pub fitted_is_line : (line : Line) → AreStates (length line.current.live) (states line)
    → 3 ≤ line.bound → line.bound < 2 ^ 32 → length (states line) ≤ line.bound + 1
    → IsLine (within_bound line)
fitted_is_line line held three small most =
    let bound : (within_bound line).bound ≡ line.bound = fitted_bound line in
    let live : length (within_bound line).current.live ≡ length line.current.live =
    ap (λ (s : State). length s.live) (fitted_current line) in
    record {
      held =
          subst (λ (n : ℕ). AreStates n (states (within_bound line))) (sym live)
          (fitted_states (length line.current.live) line three held);
      bound = (omega (arith, bound), omega (arith, bound));
      few = omega (arith, bound, fitted_few line three most);
    }

pub fitted_first : (line : Line) → 3 ≤ line.bound → line.before ≡ []
    → (within_bound line).before ≡ []
fitted_first line three none = elim (fitted_either line three) [
  | inl same ↦ ap (λ (l : Line). l.before) same ∙ none
  | inr loses ↦ keeps_first line (within_bound line) loses none
]

pub fitted_last : (line : Line) → 3 ≤ line.bound → line.after ≡ [] → (within_bound line).after ≡ []
fitted_last line three none = elim (fitted_either line three) [
  | inl same ↦ ap (λ (l : Line). l.after) same ∙ none
  | inr loses ↦ keeps_last line (within_bound line) loses none
]

-- what all states have, those that are left have
less_all : (P : State → Type 0) (line new : Line) → Loses line new → All P (states line)
    → All P (states new)
less_all P line new loses all = elim (one_goes line new loses) [
  | inl (gone, is, place, far) ↦ All-tail P gone (states new) (subst (All P) is all)
  | inr (gone, is, place, near) ↦ All-front P (states new) (gone ∷ []) (subst (All P) is all)
]
  where
    All-front : (P : State → Type 0) (xs ys : List State) → All P (xs ++ ys) → All P xs
    All-front P [] ys h = All-nil P
    All-front P (x ∷ xs) ys h =
        All-cons P x xs (All-head P x (xs ++ ys) h) (All-front P xs ys (All-tail P x (xs ++ ys) h))

pub fitted_all : (P : State → Type 0) (line : Line) → 3 ≤ line.bound → All P (states line)
    → All P (states (within_bound line))
fitted_all P line three all = elim (fitted_either line three) [
  | inl same ↦ subst (λ (l : Line). All P (states l)) (sym same) all
  | inr loses ↦ less_all P line (within_bound line) loses all
]
