-- Forms, which are values with their lines: what is read, and where reading is stuck, in a form
-- made of two others or of many.
use Rattle.std.proofs.Common.{◌≡◌, ◌∙◌, ℕ, ◌+◌, ◌-◌, ◌<◌, ◌≤◌, inl, inr, List, [], ◌∷◌, ◌++◌}
use Rattle.std.proofs.Common.{length, take, drop, All, zero, suc, arith, refl, sym, ap, subst}
use Rattle.std.proofs.Common.{append_assoc, length-append}
use Rattle.std.proofs.lemmas.Bool.{cases_lt}
use Rattle.std.proofs.lemmas.List.{append-nil, take-append-le, take-append-drop, take_all}
use Rattle.std.proofs.lemmas.List.{append_cancel_left}
use Rattle.std.proofs.lemmas.List.Concat.{flat_map-append}
use Rattle.std.proofs.lemmas.List.Elements.{All-head, All-tail}
use Rattle.std.proofs.Math.Seq.{take-append-add}
use Rattle.std.specs.List.{flat_map}
use Rattle.rc_dbtext.proofs.Stuck as stuck_at
use Rattle.rc_dbtext.specs.declared.syntax.fault.FormFault.{FormFault}
use Rattle.rc_dbtext.specs.declared.syntax.fault.FormFault.TheVariants.{Bad, Version, TooMany}
use Rattle.rc_dbtext.specs.declared.syntax.fault.FormFault.TheVariants.{Memory}
use Rattle.rc_dbtext.specs.Text.{Line, spell, spells, count_and_lines, AreFew}
use Rattle.rc_dbtext.specs.Reading.{IsStuck, IsFaultWhere, AreSo}

spells-append : (ls ms : List Line) → spells (ls ++ ms) ≡ spells ls ++ spells ms
spells-append ls ms = stuck_at.spells-append spell ls ms

-- the prefix of two lists in a row
take-two : (ls ms : List Line) (n : ℕ) → take n (ls ++ ms) ≡ take n ls ++ take (n - length ls) ms
take-two ls ms n = elim (cases_lt (length ls) n) [
  | inl longer ↦
      let split : n ≡ length ls + (n - length ls) = omega arith in
      ap (λ (k : ℕ). take k (ls ++ ms)) split ∙ take-append-add ls ms (n - length ls)
      ∙ ap (λ (front : List Line). front ++ take (n - length ls) ms)
      (sym (take_all n ls (omega arith)))
  | inr within ↦
      let none : n - length ls ≡ 0 = omega arith in
      take-append-le n ls ms within ∙ sym (append-nil (take n ls))
      ∙ ap (λ (k : ℕ). take n ls ++ take k ms) (sym none)
]

-- the bytes of that prefix
spells-two : (ls ms : List Line) (n : ℕ) (tail : List ℕ)
    → spells (take n (ls ++ ms)) ++ tail ≡ spells (take n ls)
    ++ (spells (take (n - length ls) ms) ++ tail)
spells-two ls ms n tail =
    ap (λ (l : List Line). spells l ++ tail) (take-two ls ms n)
    ∙ ap (λ (l : List ℕ). l ++ tail) (spells-append (take n ls) (take (n - length ls) ms))
    ∙ append_assoc (spells (take n ls)) (spells (take (n - length ls) ms)) tail

-- where all lines of one value stand, and as many lines of another, the values are one
abbrev pub IsOnce : {A : Type 0} → (A → Type 0) → (A → List Line) → Type 0
IsOnce {A} Is lines = (a b : A) (k : ℕ) (x y : List ℕ) → Is a → Is b → length (lines a) ≤ k
    → spells (lines a) ++ x ≡ spells (take k (lines b)) ++ y → a ≡ b

-- a form made of two: the values are pairs, and the lines of the first stand in front of those of
-- the second, whose form may depend on it
pub record IsSequence {A B C : Type 0} (IsA : A → Type 0) (lines_a : A → List Line)
    (IsB : A → B → Type 0) (lines_b : B → List Line) (IsC : C → Type 0)
    (lines_c : C → List Line) : Type 0 where
  pub both : A → B → C
  pub is_both : (a : A) (b : B) → IsA a → IsB a b → IsC (both a b)
  pub lines_both : (a : A) (b : B) → IsA a → IsB a b → lines_c (both a b) ≡ lines_a a ++ lines_b b
  pub halves : (c : C) → IsC c → (a : A) × (b : B) × IsA a × IsB a b × (c ≡ both a b)

module _ {A B C : Type 0} (IsA : A → Type 0) (lines_a : A → List Line) (IsB : A → B → Type 0)
    (lines_b : B → List Line) (IsC : C → Type 0) (lines_c : C → List Line)
    (seq : IsSequence IsA lines_a IsB lines_b IsC lines_c) where
  -- the prefix of a value's lines, from its halves
  pub front_two : (c : C) (a : A) (b : B) (n : ℕ) (tail : List ℕ) → IsA a → IsB a b
      → c ≡ seq.both a b
      → spells (take n (lines_c c)) ++ tail ≡ spells (take n (lines_a a))
      ++ (spells (take (n - length (lines_a a)) (lines_b b)) ++ tail)
  front_two c a b n tail is_a is_b same =
      ap (λ (d : C). spells (take n (lines_c d)) ++ tail) same
      ∙ ap (λ (ls : List Line). spells (take n ls) ++ tail) (seq.lines_both a b is_a is_b)
      ∙ spells-two (lines_a a) (lines_b b) n tail

  -- where the first is stuck, so are both
  pub stuck_first : (bytes rest : List ℕ) (due : Line) → ((a : A) → IsA a → (b : B) × IsB a b)
      → IsStuck IsA lines_a bytes rest due → IsStuck IsC lines_c bytes rest due
  stuck_first bytes rest due some stuck =
      let second = some stuck.value stuck.is in
      record {
        value = seq.both stuck.value second.0;
        before = stuck.before;
        after = stuck.after ++ lines_b second.0;
        is = seq.is_both stuck.value second.0 stuck.is second.1;
        parts =
            seq.lines_both stuck.value second.0 stuck.is second.1
            ∙ ap (λ (l : List Line). l ++ lines_b second.0) stuck.parts
            ∙ append_assoc stuck.before (due ∷ stuck.after) (lines_b second.0);
        front = stuck.front;
        none = λ other tail is same.
            let (a, b, is_a, is_b, made) = seq.halves other is in
            stuck.none a
            (spells (take ((length stuck.before + 1) - length (lines_a a)) (lines_b b)) ++ tail)
            is_a (same ∙ front_two other a b (length stuck.before + 1) tail is_a is_b made);
      }

  -- after a first that was read the second reads on: where all of the first stands, it is that one
  pub second_on : (a c : A) (b : B) (other : C) (n : ℕ) (x tail : List ℕ) → IsOnce IsA lines_a
      → IsA a → IsA c → IsB c b → other ≡ seq.both c b → length (lines_a a) ≤ n
      → spells (lines_a a) ++ x ≡ spells (take n (lines_c other)) ++ tail
      → (a ≡ c) × (x ≡ spells (take (n - length (lines_a a)) (lines_b b)) ++ tail)
  second_on a c b other n x tail once is_a is_c is_b made long same =
      let apart = same ∙ front_two other c b n tail is_c is_b made in
      let one : a ≡ c = once a c n x (spells (take (n - length (lines_a c)) (lines_b b)) ++ tail)
      is_a is_c long apart in
      let all : take n (lines_a c) ≡ lines_a a =
      take_all n (lines_a c) (subst (λ (v : A). length (lines_a v) ≤ n) one long)
      ∙ ap lines_a (sym one) in
      let Behind : A
      → Type 0 = λ v. spells (lines_a a) ++ x ≡ spells (lines_a a)
      ++ (spells (take (n - length (lines_a v)) (lines_b b)) ++ tail) in
      let cut : Behind c = apart
      ∙ ap (λ (ls : List Line). spells ls
      ++ (spells (take (n - length (lines_a c)) (lines_b b)) ++ tail)) all in (
        one,
        append_cancel_left (spells (lines_a a)) x
            (spells (take (n - length (lines_a a)) (lines_b b)) ++ tail)
            (subst Behind (sym one) cut),
      )

  -- where the second is stuck after a first that was read, so are both
  pub stuck_second : (bytes middle rest : List ℕ) (due : Line) (a : A) → IsOnce IsA lines_a → IsA a
      → bytes ≡ spells (lines_a a) ++ middle → IsStuck (IsB a) lines_b middle rest due
      → IsStuck IsC lines_c bytes rest due
  stuck_second bytes middle rest due a once is_a read stuck = record {
    value = seq.both a stuck.value;
    before = lines_a a ++ stuck.before;
    after = stuck.after;
    is = seq.is_both a stuck.value is_a stuck.is;
    parts =
        seq.lines_both a stuck.value is_a stuck.is ∙ ap (λ (l : List Line). lines_a a ++ l)
        stuck.parts ∙ sym (append_assoc (lines_a a) stuck.before (due ∷ stuck.after));
    front =
        read ∙ ap (λ (l : List ℕ). spells (lines_a a) ++ l) stuck.front
        ∙ sym (append_assoc (spells (lines_a a)) (spells stuck.before) rest)
        ∙ ap (λ (l : List ℕ). l ++ rest) (sym (spells-append (lines_a a) stuck.before));
    none = λ other tail is same.
        let (c, b, is_c, is_b, made) = seq.halves other is in
        let n : ℕ = length (lines_a a ++ stuck.before) + 1 in
        let count_and_lines : length (lines_a a ++ stuck.before) ≡ length (lines_a a)
        + length stuck.before = length-append (lines_a a) stuck.before in
        let on = second_on a c b other n middle tail once is_a is_c is_b made (omega arith)
        (sym read ∙ same) in
        let left : n - length (lines_a a) ≡ length stuck.before + 1 = omega arith in
        stuck.none b tail (subst (λ (v : A). IsB v b) (sym on.0) is_b)
        (on.1 ∙ ap (λ (k : ℕ). spells (take k (lines_b b)) ++ tail) left);
  }

  -- what is read of both is read once
  pub once_sequence : IsOnce IsA lines_a → ((a : A) → IsOnce (IsB a) lines_b) → IsOnce IsC lines_c
  once_sequence once_a once_b c d k x y is_c is_d long same =
      let (a, b, is_a, is_b, made) = seq.halves c is_c in
      let (e, f, is_e, is_f, made_d) = seq.halves d is_d in
      let lines : lines_c c ≡ lines_a a ++ lines_b b =
      ap lines_c made ∙ seq.lines_both a b is_a is_b in
      let count_and_lines : length (lines_c c) ≡ length (lines_a a) + length (lines_b b) =
      ap length lines ∙ length-append (lines_a a) (lines_b b) in
      let cells : spells (lines_c c) ++ x ≡ spells (lines_a a) ++ (spells (lines_b b) ++ x) =
      ap (λ (ls : List Line). spells ls ++ x) lines
      ∙ ap (λ (l : List ℕ). l ++ x) (spells-append (lines_a a) (lines_b b))
      ∙ append_assoc (spells (lines_a a)) (spells (lines_b b)) x in
      let on = second_on a e f d k (spells (lines_b b) ++ x) y once_a is_a is_e is_f made_d
      (omega arith) (sym cells ∙ same) in
      let second : b ≡ f = once_b a b f (k - length (lines_a a)) x y is_b
      (subst (λ (v : A). IsB v f) (sym on.0) is_f) (omega arith) on.1 in
      made ∙ ap (λ (v : A). seq.both v b) on.0 ∙ ap (seq.both e) second ∙ sym made_d

  -- both are read
  pub read_both : (bytes middle rest : List ℕ) (a : A) (b : B) → IsA a
      → bytes ≡ spells (lines_a a) ++ middle → IsB a b → middle ≡ spells (lines_b b) ++ rest
      → IsC (seq.both a b) × (bytes ≡ spells (lines_c (seq.both a b)) ++ rest)
  read_both bytes middle rest a b is_a read is_b read_b = (
    seq.is_both a b is_a is_b,
    read ∙ ap (λ (l : List ℕ). spells (lines_a a) ++ l) read_b
        ∙ sym (append_assoc (spells (lines_a a)) (spells (lines_b b)) rest)
        ∙ ap (λ (l : List ℕ). l ++ rest) (sym (spells-append (lines_a a) (lines_b b)))
        ∙ ap (λ (ls : List Line). spells ls ++ rest) (sym (seq.lines_both a b is_a is_b)),
  )

-- a refusal, where reading is stuck for a reason that follows
pub refused_where : (fault : FormFault) (S T : List ℕ → Line → Type 0)
    → ((rest : List ℕ) (due : Line) → S rest due → T rest due) → IsFaultWhere S fault
    → IsFaultWhere T fault
refused_where (Bad left) S T gives refused =
    (refused.0, refused.1, gives refused.0 refused.1 refused.2, refused.3, refused.4, refused.5)
refused_where Version S T gives refused =
    (refused.0, refused.1, gives refused.0 refused.1 refused.2, refused.3)
refused_where TooMany S T gives refused =
    (refused.0, refused.1, gives refused.0 refused.1 refused.2, refused.3)
refused_where Memory S T gives refused = tt

module _ {A : Type 0} (Is : A → Type 0) (lines : A → List Line) where
  All-cons : (a : A) (values : List A) → Is a → All Is values → All Is (a ∷ values)
  All-cons a values is each zero d within = is
  All-cons a values is each (suc k) d within = each k d (omega arith)

  -- one value more than some
  pub cons_sequence : (n : ℕ)
      → IsSequence Is lines (λ _. AreSo Is n) (flat_map lines) (AreSo Is (suc n)) (flat_map lines)
  cons_sequence n = record {
    both = λ a values. a ∷ values;
    is_both = λ a values is so. (omega (arith, so.0), All-cons a values is so.1);
    lines_both = λ a values is so. refl;
    halves = halves;
  }
    where
      halves : (values : List A) → AreSo Is (suc n) values
          → (a : A) × (left : List A) × Is a × AreSo Is n left × (values ≡ a ∷ left)
      halves [] so = absurd (omega (arith, so.0))
      halves (a ∷ left) so =
          (a, left, All-head Is a left so.1, (omega (arith, so.0), All-tail Is a left so.1), refl)

  -- many values are read once
  pub once_many : IsOnce Is lines → (n : ℕ) → IsOnce (AreSo Is n) (flat_map lines)
  once_many once zero =
      λ values others k x y so so_others long same. none values others so.0 so_others.0
    where
      none : (values others : List A) → length values ≡ 0 → length others ≡ 0 → values ≡ others
      none [] [] empty empty_others = refl
      none [] (b ∷ others) empty empty_others = absurd (omega arith)
      none (a ∷ values) others empty empty_others = absurd (omega arith)
  once_many once (suc n) =
      once_sequence Is lines (λ _. AreSo Is n) (flat_map lines) (AreSo Is (suc n)) (flat_map lines)
      (cons_sequence n) once (λ _. once_many once n)

  pub so_many : (n : ℕ) (a : A) → Is a → (values : List A) × AreSo Is n values
  so_many zero a is = ([], (refl, λ k d within. absurd (omega arith)))
  so_many (suc n) a is = let rest = so_many n a is in
      (a ∷ rest.0, (omega (arith, rest.1.0), All-cons a rest.0 is rest.1.1))

  -- where one is stuck after fewer values that were read, so are many
  pub stuck_many : IsOnce Is lines
      → (so_far : List A) (n : ℕ) (bytes middle rest : List ℕ) (due : Line) → All Is so_far
      → length so_far < n
      → bytes ≡ spells (flat_map lines so_far) ++ middle → IsStuck Is lines middle rest due
      → IsStuck (AreSo Is n) (flat_map lines) bytes rest due
  stuck_many once so_far zero bytes middle rest due each fewer read stuck = absurd (omega arith)
  stuck_many once [] (suc n) bytes middle rest due each fewer read stuck =
      stuck_first Is lines (λ _. AreSo Is n) (flat_map lines) (AreSo Is (suc n)) (flat_map lines)
      (cons_sequence n) bytes rest due (so_many n)
      (subst (λ (l : List ℕ). IsStuck Is lines l rest due) (sym read) stuck)
  stuck_many once (a ∷ so_far) (suc n) bytes middle rest due each fewer read stuck =
      let behind : List ℕ = spells (flat_map lines so_far) ++ middle in
      let apart : bytes ≡ spells (lines a) ++ behind =
      read ∙ ap (λ (l : List ℕ). l ++ middle) (spells-append (lines a) (flat_map lines so_far))
      ∙ append_assoc (spells (lines a)) (spells (flat_map lines so_far)) middle in
      stuck_second Is lines (λ _. AreSo Is n) (flat_map lines) (AreSo Is (suc n)) (flat_map lines)
      (cons_sequence n) bytes behind rest due a once (All-head Is a so_far each) apart
      (stuck_many once so_far n behind middle rest due (All-tail Is a so_far each)
      (omega arith) refl stuck)

-- one line: it is read once where its bytes are, and reading is stuck where no such line stands
pub once_line : {A : Type 0} (Is : A → Type 0) (line : A → Line)
    → ((a b : A) (x y : List ℕ) → Is a → Is b → spell (line a) ++ x ≡ spell (line b) ++ y → a ≡ b)
    → IsOnce Is (λ a. line a ∷ [])
once_line Is line once a b k x y is_a is_b long same =
    let all : take k (line b ∷ []) ≡ line b ∷ [] = take_all k (line b ∷ []) (omega arith) in
    let one : spells (take k (line b ∷ [])) ++ y ≡ spell (line b) ++ y =
    ap (λ (ls : List Line). spells ls ++ y) all
    ∙ ap (λ (l : List ℕ). l ++ y) (append-nil (spell (line b))) in
    once a b x y is_a is_b
    (ap (λ (l : List ℕ). l ++ x) (sym (append-nil (spell (line a)))) ∙ same ∙ one)

-- no such line stands here
abbrev pub HasNo : {A : Type 0} → (A → Type 0) → (A → Line) → List ℕ → Type 0
HasNo {A} Is line bytes = (a : A) (tail : List ℕ) → Is a → bytes ≡ spell (line a) ++ tail → ⊥

pub stuck_line : {A : Type 0} (Is : A → Type 0) (line : A → Line) (bytes : List ℕ) (a : A) → Is a
    → HasNo Is line bytes → IsStuck Is (λ v. line v ∷ []) bytes bytes (line a)
stuck_line Is line bytes a is missing = record {
  value = a;
  before = [];
  after = [];
  is = is;
  parts = refl;
  front = refl;
  none = λ other tail is_other same. missing other tail is_other
      (same ∙ ap (λ (l : List ℕ). l ++ tail) (append-nil (spell (line other))));
}

-- a count and so many values
abbrev pub counted_sequence : {A : Type 0} (Is : A → Type 0) (count : ℕ → Line)
    (lines : A → List Line)
    → IsSequence (λ n. n ≤ 4096) (λ n. count n ∷ []) (λ n. AreSo Is n) (flat_map lines) (AreFew Is)
    (count_and_lines count lines)
counted_sequence Is count lines = record {
  both = λ n values. values;
  is_both =
      λ n values few so. record { few = subst (λ (k : ℕ). k ≤ 4096) (sym so.0) few; each = so.1 };
  lines_both = λ n values few so. ap (λ (k : ℕ). count k ∷ flat_map lines values) so.0;
  halves = λ values are. (length values, values, are.few, (refl, are.each), refl);
}

-- one value more
pub more_many : {A : Type 0} (lines : A → List Line) (bytes middle rest : List ℕ)
    (so_far new : List A) (a : A) → bytes ≡ spells (flat_map lines so_far) ++ middle
    → middle ≡ spells (lines a) ++ rest → new ≡ so_far ++ a ∷ []
    → bytes ≡ spells (flat_map lines new) ++ rest
more_many lines bytes middle rest so_far new a read one pushed =
    let all : flat_map lines new ≡ flat_map lines so_far ++ lines a =
    ap (flat_map lines) pushed ∙ flat_map-append lines so_far (a ∷ [])
    ∙ ap (λ (ls : List Line). flat_map lines so_far ++ ls) (append-nil (lines a)) in
    read ∙ ap (λ (l : List ℕ). spells (flat_map lines so_far) ++ l) one
    ∙ sym (append_assoc (spells (flat_map lines so_far)) (spells (lines a)) rest)
    ∙ ap (λ (l : List ℕ). l ++ rest) (sym (spells-append (flat_map lines so_far) (lines a)))
    ∙ ap (λ (ls : List Line). spells ls ++ rest) (sym all)

-- where all lines of a value stand, reading is stuck nowhere
pub never_stuck : {A : Type 0} (Is : A → Type 0) (lines : A → List Line) (a : A)
    (bytes tail rest : List ℕ) (due : Line) → Is a → bytes ≡ spells (lines a) ++ tail
    → IsStuck Is lines bytes rest due → ⊥
never_stuck Is lines a bytes tail rest due is stands stuck =
    let n : ℕ = length stuck.before + 1 in
    let split : lines a ≡ take n (lines a) ++ drop n (lines a) =
    sym (take-append-drop n (lines a)) in
    stuck.none a (spells (drop n (lines a)) ++ tail) is
    (stands ∙ ap (λ (ls : List Line). spells ls ++ tail) split
    ∙ ap (λ (l : List ℕ). l ++ tail) (spells-append (take n (lines a)) (drop n (lines a)))
    ∙ append_assoc (spells (take n (lines a))) (spells (drop n (lines a))) tail)

-- so no line of it is refused
pub never_refused : {A : Type 0} (Is : A → Type 0) (lines : A → List Line) (a : A)
    (bytes tail : List ℕ) (fault : FormFault) → Is a → bytes ≡ spells (lines a) ++ tail
    → IsFaultWhere (IsStuck Is lines bytes) fault
    → fault ≡ Memory
never_refused Is lines a bytes tail (Bad left) is stands refused =
    absurd (never_stuck Is lines a bytes tail refused.0 refused.1 is stands refused.2)
never_refused Is lines a bytes tail Version is stands refused =
    absurd (never_stuck Is lines a bytes tail refused.0 refused.1 is stands refused.2)
never_refused Is lines a bytes tail TooMany is stands refused =
    absurd (never_stuck Is lines a bytes tail refused.0 refused.1 is stands refused.2)
never_refused Is lines a bytes tail Memory is stands refused = refl

-- bytes begin with the lines of one value, and what follows them is one rest
pub read_once : {A : Type 0} (Is : A → Type 0) (lines : A → List Line) → IsOnce Is lines
    → (a b : A) (x y : List ℕ) → Is a → Is b → spells (lines a) ++ x ≡ spells (lines b) ++ y
    → (a ≡ b) × (x ≡ y)
read_once {A} Is lines once a b x y is_a is_b same =
    let n : ℕ = length (lines a) + length (lines b) in
    let all : take n (lines b) ≡ lines b = take_all n (lines b) (omega arith) in
    let value : a ≡ b = once a b n x y is_a is_b (omega arith)
    (same ∙ ap (λ (ls : List Line). spells ls ++ y) (sym all)) in (
      value,
      append_cancel_left (spells (lines a)) x y
          (same ∙ ap (λ (v : A). spells (lines v) ++ y) (sym value)),
    )
