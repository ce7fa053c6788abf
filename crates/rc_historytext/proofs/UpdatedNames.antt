-- The conversions that the text of a history says of an update: what goes on unaltered goes on by
-- them as it does by all.
use Rattle.std.proofs.Common.{◌≡◌, ◌∙◌, ◌↔◌, ◌++◌, ◌∷◌, ℕ, Bool, true, false, not, List, [], map}
use Rattle.std.proofs.Common.{Option, Some, None, slice_get, cond, refl, sym, ap, subst}
use Rattle.std.specs.Prelude.{option_map, if◌then◌else◌}
use Rattle.std.specs.List.{filter}
use Rattle.std.specs.Str.{bytes_eq}
use Rattle.std.proofs.lemmas.Bool.{false_from_ne_true, false≢true, true≢false}
use Rattle.std.proofs.lemmas.List.{append-nil}
use Rattle.std.proofs.lemmas.Option.{none-some}
use Rattle.rc_model.specs.Names.{Has}
use Rattle.rc_model.specs.Graph.{IsClosed, Needs}
use Rattle.rc_model.specs.Database.{Database, IsDatabase, Service}
use Rattle.rc_update.specs.Carrying.{AreTwins, Carried, IsRestarted, IsTwin, IsUnaltered}
use Rattle.rc_update.specs.Conversions.{Conversion, conversion_for, counterpart, is_restarted}
use Rattle.rc_update.specs.Conversions.{is_taken, name_by, restart_by}
use Rattle.rc_update.specs.Distinct.{AreDistinct, AreDistinctBehind, is_converted, is_some_one}
use Rattle.rc_update.proofs.CarryingLemmas.{one_twin}
use Rattle.rc_historytext.specs.Telling.{conversion_of}
use Rattle.rc_historytext.specs.Updating.{rename_of}
use Rattle.rc_historytext.specs.Updates.{renamed}

-- what the text says of one that restarts nothing
abbrev pub said_of : Conversion → Conversion
said_of c = conversion_of (rename_of c)

-- what it says of a list that begins with this one
abbrev pub said_from : (restart : Bool) → Conversion → List Conversion → List Conversion
said_from restart c list = map conversion_of (map rename_of
    (cond (not restart) (c ∷ filter (λ (b : Conversion). not b.restart) list)
    (filter (λ (b : Conversion). not b.restart) list)))

-- the conversion of a name that is not restarted
spared : (list : List Conversion) (name : List ℕ) → is_restarted list name ≡ false
    → conversion_for (renamed list) name ≡ option_map said_of (conversion_for list name)
spared [] name goes = refl
spared (c ∷ list) name goes = by (spared list name) (bytes_eq c.old name) c.restart refl refl
  where
    behind : bytes_eq c.old name ≡ false → is_restarted list name ≡ false
    behind at =
        ap (λ (b : Bool). restart_by (if b then Some c else conversion_for list name)) (sym at)
        ∙ goes

    by : (is_restarted list name ≡ false → conversion_for (renamed list) name
        ≡ option_map said_of (conversion_for list name)) → (e r : Bool)
        → bytes_eq c.old name ≡ e → c.restart ≡ r
        → conversion_for (renamed (c ∷ list)) name
        ≡ option_map said_of (conversion_for (c ∷ list) name)
    by rest true true at is =
        absurd (true≢false (sym is
        ∙ ap (λ (b : Bool). restart_by (if b then Some c else conversion_for list name)) (sym at)
        ∙ goes))
    by rest true false at is =
        ap (λ (r : Bool). conversion_for (said_from r c list) name) is
        ∙ ap (λ (b : Bool). if b then Some (said_of c) else conversion_for (renamed list) name) at
        ∙ ap (λ (b : Bool). option_map said_of (if b then Some c else conversion_for list name))
        (sym at)
    by rest false true at is =
        ap (λ (r : Bool). conversion_for (said_from r c list) name) is
        ∙ rest (behind at)
        ∙ ap (λ (b : Bool). option_map said_of (if b then Some c else conversion_for list name))
        (sym at)
    by rest false false at is =
        ap (λ (r : Bool). conversion_for (said_from r c list) name) is
        ∙ ap (λ (b : Bool). if b then Some (said_of c) else conversion_for (renamed list) name) at
        ∙ rest (behind at)
        ∙ ap (λ (b : Bool). option_map said_of (if b then Some c else conversion_for list name))
        (sym at)

-- a name that none of them has is none of theirs
not_taken : (list : List Conversion) (name : List ℕ) → is_taken list name ≡ false
    → is_taken (renamed list) name ≡ false
not_taken [] name free = refl
not_taken (c ∷ list) name free = by (not_taken list name) (bytes_eq c.new name) c.restart refl refl
  where
    behind : bytes_eq c.new name ≡ false → is_taken list name ≡ false
    behind at = ap (λ (b : Bool). if b then true else is_taken list name) (sym at) ∙ free

    by : (is_taken list name ≡ false → is_taken (renamed list) name ≡ false) → (e r : Bool)
        → bytes_eq c.new name ≡ e → c.restart ≡ r
        → is_taken (renamed (c ∷ list)) name ≡ false
    by rest true r at is =
        absurd (true≢false
        (ap (λ (b : Bool). if b then true else is_taken list name) (sym at) ∙ free))
    by rest false true at is =
        ap (λ (r : Bool). is_taken (said_from r c list) name) is ∙ rest (behind at)
    by rest false false at is =
        ap (λ (r : Bool). is_taken (said_from r c list) name) is
        ∙ ap (λ (b : Bool). if b then true else is_taken (renamed list) name) at
        ∙ rest (behind at)

not_converted : (list : List Conversion) (name : List ℕ) → is_converted list name ≡ false
    → is_converted (renamed list) name ≡ false
not_converted [] name free = refl
not_converted (c ∷ list) name free =
    by (not_converted list name) (bytes_eq c.old name) c.restart refl refl
  where
    behind : bytes_eq c.old name ≡ false → is_converted list name ≡ false
    behind at =
        ap (λ (b : Bool). is_some_one (if b then Some c else conversion_for list name)) (sym at)
        ∙ free

    by : (is_converted list name ≡ false → is_converted (renamed list) name ≡ false)
        → (e r : Bool) → bytes_eq c.old name ≡ e → c.restart ≡ r
        → is_converted (renamed (c ∷ list)) name ≡ false
    by rest true r at is =
        absurd (true≢false
        (ap (λ (b : Bool). is_some_one (if b then Some c else conversion_for list name)) (sym at)
        ∙ free))
    by rest false true at is =
        ap (λ (r : Bool). is_converted (said_from r c list) name) is ∙ rest (behind at)
    by rest false false at is =
        ap (λ (r : Bool). is_converted (said_from r c list) name) is
        ∙ ap (λ (b : Bool). is_some_one (if b then Some (said_of c)
        else conversion_for (renamed list) name)) at
        ∙ rest (behind at)

-- none of them restarts a service
none_restarts : (list : List Conversion) (name : List ℕ) → is_restarted (renamed list) name ≡ false
none_restarts [] name = refl
none_restarts (c ∷ list) name = by (none_restarts list name) c.restart refl
  where
    first : is_restarted (renamed list) name ≡ false → (e : Bool)
        → restart_by (if e then Some (said_of c) else conversion_for (renamed list) name) ≡ false
    first rest true = refl
    first rest false = rest

    by : is_restarted (renamed list) name ≡ false → (r : Bool) → c.restart ≡ r
        → is_restarted (renamed (c ∷ list)) name ≡ false
    by rest true is = ap (λ (r : Bool). is_restarted (said_from r c list) name) is ∙ rest
    by rest false is =
        ap (λ (r : Bool). is_restarted (said_from r c list) name) is
        ∙ first rest (bytes_eq c.old name)

-- what is not restarted goes on under the same name
goes_on_as : (list : List Conversion) (name other : List ℕ) → is_restarted list name ≡ false
    → counterpart list name ≡ Some other → counterpart (renamed list) name ≡ Some other
goes_on_as list name other stays on =
    by (conversion_for list name) (is_taken list name) refl refl
  where
    by : (found : Option Conversion) (taken : Bool) → conversion_for list name ≡ found
        → is_taken list name ≡ taken → counterpart (renamed list) name ≡ Some other
    by (Some c) taken is free =
        ap (λ (o : Option Conversion). name_by o (is_taken (renamed list) name) name)
        (spared list name stays ∙ ap (option_map said_of) is)
        ∙ ap (λ (o : Option Conversion). name_by o (is_taken list name) name) (sym is) ∙ on
    by None true is free =
        absurd (none-some other
        (ap (λ (b : Bool). name_by None b name) (sym free)
        ∙ ap (λ (o : Option Conversion). name_by o (is_taken list name) name) (sym is) ∙ on))
    by None false is free =
        ap (λ (o : Option Conversion). name_by o (is_taken (renamed list) name) name)
        (spared list name stays ∙ ap (option_map said_of) is)
        ∙ ap (λ (b : Bool). name_by None b name) (not_taken list name free)
        ∙ ap (λ (b : Bool). name_by None b name) (sym free)
        ∙ ap (λ (o : Option Conversion). name_by o (is_taken list name) name) (sym is) ∙ on

-- they share no name where all share none
said_push : (before : List Conversion) (c : Conversion)
    → renamed (before ++ c ∷ []) ≡ renamed before ++ renamed (c ∷ [])
said_push [] c = refl
said_push (b ∷ before) c = by (said_push before c) b.restart refl
  where
    by : renamed (before ++ c ∷ []) ≡ renamed before ++ renamed (c ∷ []) → (r : Bool)
        → b.restart ≡ r
        → renamed (b ∷ (before ++ c ∷ [])) ≡ renamed (b ∷ before) ++ renamed (c ∷ [])
    by rest true is =
        ap (λ (r : Bool). said_from r b (before ++ c ∷ [])) is ∙ rest
        ∙ ap (λ (r : Bool). said_from r b before ++ renamed (c ∷ [])) (sym is)
    by rest false is =
        ap (λ (r : Bool). said_from r b (before ++ c ∷ [])) is
        ∙ ap (λ (more : List Conversion). said_of b ∷ more) rest
        ∙ ap (λ (r : Bool). said_from r b before ++ renamed (c ∷ [])) (sym is)

distinct_behind : (before list : List Conversion) → AreDistinctBehind before list
    → AreDistinctBehind (renamed before) (renamed list)
distinct_behind before [] all = tt
distinct_behind before (c ∷ list) all =
    by (subst (λ (front : List Conversion). AreDistinctBehind front (renamed list))
    (said_push before c) (distinct_behind (before ++ c ∷ []) list all.1)) c.restart refl
  where
    by : AreDistinctBehind (renamed before ++ renamed (c ∷ [])) (renamed list) → (r : Bool)
        → c.restart ≡ r → AreDistinctBehind (renamed before) (renamed (c ∷ list))
    by rest true is =
        subst (λ (r : Bool). AreDistinctBehind (renamed before) (said_from r c list)) (sym is)
        (subst (λ (front : List Conversion). AreDistinctBehind front (renamed list))
        (ap (λ (r : Bool). renamed before ++ said_from r c []) is ∙ append-nil (renamed before))
        rest)
    by rest false is =
        subst (λ (r : Bool). AreDistinctBehind (renamed before) (said_from r c list)) (sym is) (
          (not_converted before c.old all.0.0, not_taken before c.new all.0.1),
          subst (λ (r : Bool). AreDistinctBehind (renamed before ++ said_from r c [])
              (renamed list)) is rest,
        )

pub distinct_said : (list : List Conversion) → AreDistinct list → AreDistinct (renamed list)
distinct_said list all = distinct_behind [] list all

-- a twin stays one
twin_said : (old new : Database) (list : List Conversion) (s t : ℕ)
    → (IsRestarted old list s → ⊥) → IsTwin old new list s t → IsTwin old new (renamed list) s t
twin_said old new list s t free (name, other, at, on, there) = (
  name,
  other,
  at,
  goes_on_as list name other
      (false_from_ne_true (is_restarted list name) (λ is. free (name, at, is))) on,
  there,
)

-- what is live goes on unaltered, and so does all that it needs
module _ (old new : Database) (list : List Conversion) (live : List Bool) (is : IsDatabase old)
    (is_new : IsDatabase new) (closed : IsClosed old.needs (Has live))
    (each : (s : ℕ) → Has live s → IsUnaltered old new list s) where
  fed_said : (s t : ℕ) (a b : Service) → Has live s → slice_get old.services s ≡ Some a
      → (p q : Option ℕ) → a.producer_for ≡ p → b.producer_for ≡ q → AreTwins old new list p q
      → AreTwins old new (renamed list) p q
  fed_said s t a b up at None None reads read twins = tt
  fed_said s t a b up at None (Some q) reads read twins = twins
  fed_said s t a b up at (Some p) None reads read twins = twins
  fed_said s t a b up at (Some p) (Some q) reads read twins =
      let need : Needs old.needs s p = (is.fit.fed s p (a, at, reads)).1 in
      twin_said old new list p q (each p (closed s p up need)).spared twins

  pub unaltered_said : (s : ℕ) → Has live s → IsUnaltered old new (renamed list) s
  unaltered_said s up =
      let was = each s up in
      let t : ℕ = was.same.0 in
      let same = was.same.1 in
      record {
        spared = λ goes. false≢true (sym (none_restarts list goes.0) ∙ goes.2);
        same = (
          t,
          record {
            twin = twin_said old new list s t was.spared same.twin;
            alike = λ a b at there. let alike = same.alike a b at there in record {
              kind = alike.kind;
              reader =
                  fed_said s t a b up at a.producer_for b.producer_for refl refl alike.reader;
            };
            needs = record {
              forth = λ x need. let on = same.needs.forth x need in (
                on.0,
                twin_said old new list x on.0 (each x (closed s x up need)).spared on.1,
                on.2,
              );
              back = λ u need. let from = same.needs.back u need in (
                from.0,
                from.1,
                twin_said old new list from.0 u (each from.0 (closed s from.0 up from.1)).spared
                    from.2,
              );
            };
          },
        );
      }

  pub carried_said : (t : ℕ) → Carried old new list (Has live) t
      ↔ Carried old new (renamed list) (Has live) t
  carried_said t = (
    λ on. (on.0, on.1, twin_said old new list on.0 t (each on.0 on.1).spared on.2),
    λ on.
        let same = (each on.0 on.1).same in
        let twin = twin_said old new list on.0 same.0 (each on.0 on.1).spared same.1.twin in
        let is_so : same.0 ≡ t = one_twin old new (renamed list) on.0 same.0 t is_new twin on.2 in
        (on.0, on.1, subst (IsTwin old new list on.0) is_so same.1.twin),
  )
