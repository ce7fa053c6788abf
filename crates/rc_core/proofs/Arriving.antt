-- A service arrives: those of a list wait for one less, one after the other, and some join the
-- queue.
use Rattle.std.proofs.Common.{◌≡◌, ◌≢◌, ◌∙◌, ◌↔◌, ℕ, ◌+◌, ◌-◌, ◌<◌, ◌≤◌, List, [], ◌∷◌, ◌++◌, Bool}
use Rattle.std.proofs.Common.{true, false, Contains, eqb, inl, inr, length, take, slice_index}
use Rattle.std.proofs.Common.{slice_index_or, slice_set, vec_capacity, All, cond, count_by, zero}
use Rattle.std.proofs.Common.{suc, refl, sym, subst, arith}
use Rattle.std.specs.Global.{Vec}
use mathlib.Core.Bool.{beq}
use Rattle.std.proofs.lemmas.Bool.{cases_lt, cases_eq, ne_eqb}
use Rattle.std.proofs.lemmas.List.{length_push, get_or_past, get_or_default, get_or-take}
use Rattle.std.proofs.lemmas.List.{length-take-le}
use Rattle.std.proofs.lemmas.List.Elements.{Contains-append_left, Contains-append_cases}
use Rattle.std.proofs.lemmas.List.Elements.{Contains-push, Contains-push_cases, Contains-get_or}
use Rattle.std.proofs.lemmas.List.Quantifiers.{all_pairs_push}
use Rattle.std.proofs.lemmas.List.Sums.{count_by-le-length, sum_by-cons}
use Rattle.std.proofs.lemmas.Map.Keys.{IsDistinct-from_apart}
use Rattle.std.proofs.lemmas.Map.Steps.{length-le_from_distinct_below}
use Rattle.rc_model.specs.Names.{IsAscending}
use Rattle.rc_model.proofs.Members.{none_contained}
use Rattle.rc_graph.specs.Order.{AreDistinct}
use Rattle.rc_graph.specs.Placing.{Meets}
use Rattle.rc_graph.proofs.Orders.{none_met, last_met, more_met, distinct_ascending, not_before}
use Rattle.rc_graph.proofs.Orders.{distinct_join}
use Rattle.rc_graph.proofs.Unmet.{contains_any}
use Rattle.rc_core.specs.declared.ready.Ready.{Ready}
use Rattle.rc_core.specs.Ready.{IsCount, HasQueue, Arrives}

-- none of a list
pub none_arrive : (old : Ready) → Arrives [] old old
none_arrive old = record {
  those = [];
  same = λ s. (λ h. absurd (none_contained s h), λ h. absurd (none_contained s h.0));
  meets = none_met old.queue.items old.waits.items;
  capacity = refl;
}

-- what waits for some stands in the queue neither at first nor so far
pub out_of_queue : (those waits : List ℕ) (queue mid : Vec ℕ) (mid_waits : List ℕ) (x : ℕ)
    → HasQueue waits queue → Meets those queue.items waits mid.items mid_waits
    → (Contains those x → ⊥) → 0 < slice_index waits x → Contains mid.items x → ⊥
out_of_queue those waits queue mid mid_waits x has meets out some there =
    elim (Contains-append_cases queue.items meets.more x
    (subst (λ (xs : List ℕ). Contains xs x) meets.behind there)) [
      | inl earlier ↦ omega (arith, some, (has.none x earlier).1)
      | inr now ↦ out ((meets.placed x).0 now).0
    ]

-- the queue as far as it has come has fewer services than there are, where one more that waited for
-- one is to go in
pub fewer_queued : (those waits mid_waits : List ℕ) (queue mid : Vec ℕ) (x : ℕ)
    → HasQueue waits queue → Meets those queue.items waits mid.items mid_waits
    → (Contains those x → ⊥) → x < length waits → slice_index mid_waits x ≡ 1
    → length mid.items + 1 ≤ length waits
fewer_queued those waits mid_waits queue mid x has meets out low one =
    let was : slice_index waits x ≡ 1 = sym (meets.same x out) ∙ one in
    let apart : (s : ℕ) → Contains queue.items s → Contains meets.more s → ⊥ =
    λ s first second. omega (arith, (has.none s first).1, ((meets.placed s).0 second).1) in
    let once : AreDistinct mid.items =
    subst AreDistinct (sym meets.behind)
    (distinct_join queue.items meets.more has.once meets.once apart) in
    let lacks : Contains mid.items x → ⊥ =
    out_of_queue those waits queue mid mid_waits x has meets out (omega (arith, was)) in
    let all : AreDistinct (mid.items ++ x ∷ []) =
    all_pairs_push (λ a b. a ≢ b) mid.items x once
    (λ k d h same. lacks (subst (Contains mid.items) same (Contains-get_or mid.items k d h))) in
    let below : (q : ℕ) → Contains (mid.items ++ x ∷ []) q → q < length waits =
    λ q there. elim (Contains-push_cases mid.items x q there) [
      | inl earlier ↦ elim (Contains-append_cases queue.items meets.more q
          (subst (λ (xs : List ℕ). Contains xs q) meets.behind earlier)) [
            | inl first ↦ (has.none q first).0
            | inr second ↦ listed_low waits q ((meets.placed q).0 second).1
          ]
      | inr now ↦ subst (λ (y : ℕ). y < length waits) now low
    ] in
    let short =
    length-le_from_distinct_below (mid.items ++ x ∷ []) (length waits)
    (IsDistinct-from_apart eqb (mid.items ++ x ∷ [])
    (λ i j d before within. ne_eqb _ _ (all i j d before within)))
    (λ q any. below q (contains_any (mid.items ++ x ∷ []) q any)) in
    omega (arith, short, length_push mid.items x)
  where
    listed_low : (ws : List ℕ) (q : ℕ) → slice_index ws q ≡ 1 → q < length ws
    listed_low ws q here = elim (cases_lt q (length ws)) [
      | inl within ↦ within
      | inr past ↦ absurd (omega (arith, here, get_or_past ws q 0 past))
    ]

-- one more of the list, which waits for some
pub one_arrives : (front : List ℕ) (old mid new : Ready) (x : ℕ)
    (before : Arrives front old mid) → (Contains before.those x → ⊥)
    → x < length old.waits.items → 0 < slice_index old.waits.items x
    → new.waits.items ≡ slice_set mid.waits.items x (slice_index mid.waits.items x - 1)
    → (slice_index mid.waits.items x ≡ 1 → new.queue.items ≡ mid.queue.items ++ x ∷ [])
    → (slice_index mid.waits.items x ≢ 1 → new.queue.items ≡ mid.queue.items)
    → vec_capacity new.queue ≡ vec_capacity mid.queue → Arrives (front ++ x ∷ []) old new
one_arrives front old mid new x before out low some waits last more capacity =
    let here = before.meets.same x out in
    let Waits = λ (s : ℕ). 0 < slice_index old.waits.items s in
    record {
      those = before.those ++ x ∷ [];
      same = λ s. (
        λ there. elim (Contains-push_cases before.those x s there) [
          | inl earlier ↦
              let h = (before.same s).0 earlier in
              (Contains-append_left front (x ∷ []) s h.0, h.1)
          | inr now ↦ (
            subst (Contains (front ++ x ∷ [])) now (Contains-push front x),
            subst Waits now some,
          )
        ],
        λ h. elim (Contains-push_cases front x s h.0) [
          | inl earlier ↦ Contains-append_left before.those (x ∷ []) s
              ((before.same s).1 (earlier, h.1))
          | inr now ↦ subst (Contains (before.those ++ x ∷ [])) now (Contains-push before.those x)
        ],
      );
      meets = subst
          (λ (ws : List ℕ).
          Meets (before.those ++ x ∷ []) old.queue.items old.waits.items new.queue.items ws)
          (sym waits) (elim (cases_eq (slice_index old.waits.items x) 1) [
            | inl one ↦ last_met before.those old.queue.items old.waits.items mid.queue.items
                mid.waits.items new.queue.items x before.meets out low one (last (here ∙ one))
            | inr many ↦ more_met before.those old.queue.items old.waits.items mid.queue.items
                mid.waits.items new.queue.items x before.meets out low some many
                (more (λ e. many (sym here ∙ e)))
          ]);
      capacity = capacity ∙ before.capacity;
    }

-- one more of the list, which waits for none
pub one_stays : (front : List ℕ) (old mid : Ready) (x : ℕ) → Arrives front old mid
    → slice_index old.waits.items x ≡ 0 → Arrives (front ++ x ∷ []) old mid
one_stays front old mid x before none = record {
  those = before.those;
  same = λ s. (
    λ there. let h = (before.same s).0 there in (Contains-append_left front (x ∷ []) s h.0, h.1),
    λ h. elim (Contains-push_cases front x s h.0) [
      | inl earlier ↦ (before.same s).1 (earlier, h.1)
      | inr now ↦ absurd
          (let some : 0 < slice_index old.waits.items x =
          subst (λ (y : ℕ). 0 < slice_index old.waits.items y) (sym now) h.1 in omega arith)
    ],
  );
  meets = before.meets;
  capacity = before.capacity;
}

-- the next of an ascending list was not among those before it
pub not_yet : (list : List ℕ) (k : ℕ) (old mid : Ready)
    (before : Arrives (take k list) old mid) → IsAscending list → k < length list
    → Contains before.those (slice_index list k) → ⊥
not_yet list k old mid before up within there =
    not_before list k (distinct_ascending list up) within
    ((before.same (slice_index list k)).0 there).0

-- and is above them
pub above_front : (list : List ℕ) (k s : ℕ) → IsAscending list → k < length list
    → Contains (take k list) s → s < slice_index list k
above_front list k s up within (j, low, is) =
    let n : length (take k list) ≡ k = length-take-le k list (omega arith) in
    let before : j < k = omega arith in
    let at : slice_index_or list j s ≡ s = sym (get_or-take k list j s before) ∙ is in
    let less : slice_index_or list j s < slice_index_or list k s = up j k s before within in
    let here : slice_index_or list k s ≡ slice_index list k = get_or_default list k s 0 within in
    omega (arith, less, at, here)

-- nothing is counted in an empty list
pub none_counted : (In : ℕ → Type 0) → IsCount (λ t. Contains [] t × In t) 0
none_counted In = record {
  ids = [];
  lists = record {
    ascending = λ i j d first within. absurd (omega arith);
    same = λ s. (λ h. absurd (none_contained s h), λ h. absurd (none_contained s h.0));
  };
  long = refl;
}

-- one more, which counts
pub one_counted : (In : ℕ → Type 0) (front : List ℕ) (n x : ℕ)
    → IsCount (λ t. Contains front t × In t) n → ((s : ℕ) → Contains front s → s < x) → In x
    → IsCount (λ t. Contains (front ++ x ∷ []) t × In t) (n + 1)
one_counted In front n x count above holds = record {
  ids = count.ids ++ x ∷ [];
  lists = record {
    ascending =
        all_pairs_push (λ a b. a < b) count.ids x count.lists.ascending
        (λ k d h.
        above (slice_index_or count.ids k d)
        ((count.lists.same (slice_index_or count.ids k d)).0 (Contains-get_or count.ids k d h)).0);
    same = λ s. (
      λ there. elim (Contains-push_cases count.ids x s there) [
        | inl earlier ↦
            let h = (count.lists.same s).0 earlier in
            (Contains-append_left front (x ∷ []) s h.0, h.1)
        | inr now ↦ (
          subst (Contains (front ++ x ∷ [])) now (Contains-push front x),
          subst In now holds,
        )
      ],
      λ h. elim (Contains-push_cases front x s h.0) [
        | inl earlier ↦ Contains-append_left count.ids (x ∷ []) s
            ((count.lists.same s).1 (earlier, h.1))
        | inr now ↦ subst (Contains (count.ids ++ x ∷ [])) now (Contains-push count.ids x)
      ],
    );
  };
  long = omega (arith, length_push count.ids x, count.long);
}

-- one more, which does not
pub one_passed_by : (In : ℕ → Type 0) (front : List ℕ) (n x : ℕ)
    → IsCount (λ t. Contains front t × In t) n → (In x → ⊥)
    → IsCount (λ t. Contains (front ++ x ∷ []) t × In t) n
one_passed_by In front n x count not_in = record {
  ids = count.ids;
  lists = record {
    ascending = count.lists.ascending;
    same = λ s. (
      λ there.
          let h = (count.lists.same s).0 there in
          (Contains-append_left front (x ∷ []) s h.0, h.1),
      λ h. elim (Contains-push_cases front x s h.0) [
        | inl earlier ↦ (count.lists.same s).1 (earlier, h.1)
        | inr now ↦ absurd (not_in (subst In (sym now) h.1))
      ],
    );
  };
  long = count.long;
}

-- two truth values of which one is true where the other is
pub same_truth : (a b : Bool) → (a ≡ true) ↔ (b ≡ true) → a ≡ b
same_truth true b iff = sym (iff.0 refl)
same_truth false true iff = iff.1 refl
same_truth false false iff = refl

-- what a comparison of two truth values says
pub beq-true : (a b : Bool) → beq a b ≡ true → a ≡ b
beq-true true true e = refl
beq-true true false e = let bad : false ≡ true = e in cc
beq-true false true e = let bad : false ≡ true = e in cc
beq-true false false e = refl

pub beq-false : (a b : Bool) → beq a b ≡ false → a ≡ b → ⊥
beq-false true true e same = let bad : true ≡ false = e in cc
beq-false true false e same = let bad : true ≡ false = same in cc
beq-false false true e same = let bad : false ≡ true = same in cc
beq-false false false e same = let bad : true ≡ false = e in cc

-- all of a list count where all are alike
pub all_counted : (In : ℕ → Type 0) (list : List ℕ) → IsAscending list
    → ((s : ℕ) → Contains list s → In s) → IsCount (λ t. Contains list t × In t) (length list)
all_counted In list up each = record {
  ids = list;
  lists = record {
    ascending = up;
    same = λ s. (λ there. (there, each s there), λ h. h.0);
  };
  long = refl;
}

-- and none where none is
pub none_of_them : (In : ℕ → Type 0) (list : List ℕ) → ((s : ℕ) → Contains list s → In s → ⊥)
    → IsCount (λ t. Contains list t × In t) 0
none_of_them In list none = record {
  ids = [];
  lists = record {
    ascending = λ i j d first within. absurd (omega arith);
    same = λ s. (λ h. absurd (none_contained s h), λ h. absurd (none s h.0 h.1));
  };
  long = refl;
}

-- a set that has as many as there are has all
pub all_in : (set : List Bool) → count_by (λ flag. flag) set ≡ length set → (s : ℕ)
    → s < length set → slice_index_or set s false ≡ true
all_in [] full s low = absurd (omega arith)
all_in (true ∷ set) full zero low = refl
all_in (true ∷ set) full (suc s) low =
    let first = sum_by-cons (λ (flag : Bool). cond flag 1 0) true set in
    let rest : count_by (λ (flag : Bool). flag) set ≡ length set = omega (arith, full, first) in
    all_in set rest s (omega (arith, low))
all_in (false ∷ set) full s low =
    let first = sum_by-cons (λ (flag : Bool). cond flag 1 0) false set in
    let few = count_by-le-length (λ (flag : Bool). flag) set in
    absurd (omega (arith, full, first, few))

-- what all of a list are
pub each_listed : (P : ℕ → Type 0) (list : List ℕ) → All P list → (s : ℕ) → Contains list s → P s
each_listed P list all s (j, low, is) = subst P is (all j s low)
