-- What the states of a text make of it: a line, or a refusal.
use Rattle.std.proofs.Common.{◌≡◌, ◌∙◌, ◌<◌, ◌↔◌, ℕ, List, ◌∷◌, ◌++◌, Option, Some, None, length}
use Rattle.std.proofs.Common.{map, take, get_or, Contains, All, arith, sym, ap, subst}
use Rattle.std.proofs.lemmas.List.{get_or-map, length-map, map-append, take-map}
use Rattle.std.proofs.lemmas.List.Elements.{All-contains, All-map, All-take}
use Rattle.std.proofs.lemmas.Option.{slice_get-map}
use Rattle.std.specs.Option.{option_map}
use Rattle.rc_model.specs.Database.{Database, IsDatabase, AreApart}
use Rattle.rc_model.specs.Line.{State, Line, IsLine, DifferInTurn, states, cursor}
use Rattle.rc_model.specs.Session.{IsStateOf, IsLineOf}
use Rattle.rc_model.proofs.Lists.{all_at}
use Rattle.rc_dbtext.specs.Words.{BundleText}
use Rattle.rc_livetext.specs.Text.{LiveText, StateText}
use Rattle.rc_dbtext.proofs.Naming.{member_mapped}
use Rattle.rc_livetext.specs.declared.fault.LiveFault.{LiveFault}
use Rattle.rc_livetext.specs.declared.fault.LiveFault.TheVariants.{Bad, Version, Unknown, NotClosed}
use Rattle.rc_livetext.specs.declared.fault.LiveFault.TheVariants.{SameState, OtherDb, Memory}
use Rattle.rc_livetext.specs.declared.fault.LiveFault.TheVariants.{OverBound}
use Rattle.rc_livetext.specs.LiveFaults.{IsMeaningFault}
use Rattle.rc_livetext.specs.Meaning.{IsClosedState, IsFirstNot, IsKnownState, PassesNames}
use Rattle.rc_livetext.specs.Meaning.{TextsDiffer, all_states}
use Rattle.rc_livetext.specs.Parts.{HasNeeds, IsTextOf, IsWithin, MakeLine, MakeNone, bound_for}
use Rattle.rc_livetext.specs.Spelling.{state_text, text_with}
use Rattle.rc_livetext.proofs.Naming.{closed_named}
use Rattle.rc_livetext.proofs.Pairs.{split}
use Rattle.rc_livetext.proofs.Texts.{names_kept, states_differ, texts_differ}

-- a state has what it needs just where its text says so
closed_text : (d : Database) (is : IsDatabase d) (s : State) → IsWithin (length d.names) s
    → HasNeeds d.needs s ↔ IsClosedState d (state_text d.names s)
unfolding HasNeeds
closed_text d is s within = closed_named d.names is.names.order s.live within.live d.needs

-- bundles whose texts have none of the names are apart from them
bundles_apart : (names : List (List ℕ)) (s : State) → IsKnownState names (state_text names s)
    → AreApart names s.table
bundles_apart names s known name is_name is_bundle =
    let in_texts : Contains (map (λ (b : BundleText). b.name) (state_text names s).bundles) name =
    subst (λ (l : List (List ℕ)). Contains l name) (sym (names_kept names s.table)) is_bundle in
    let found =
    member_mapped (λ (b : BundleText). b.name) (state_text names s).bundles name in_texts in
    All-contains (λ (b : BundleText). Contains names b.name → ⊥) (state_text names s).bundles
    found.0 known.apart found.1 (subst (Contains names) (sym found.2) is_name)

-- what all images are, the image of each element is
image_at : {X Y : Type 0} (P : Y → Type 0) (f : X → Y) (xs : List X) → All P (map f xs)
    → (k : ℕ) (e : X) → k < length xs → P (f (get_or xs k e))
image_at P f xs each k e low =
    subst P (get_or-map f xs k e (f e) low) (each k (f e) (omega (arith, length-map xs f)))

module _ (d : Database) (is : IsDatabase d) (t : LiveText) (ss : List State)
    (within : All (IsWithin (length d.names)) ss)
    (same : map (state_text d.names) ss ≡ all_states t) where
  -- what holds of the texts of the states holds of those of the text
  over : (P : StateText → Type 0) → All (λ (s : State). P (state_text d.names s)) ss
      → All P (all_states t)
  over P each = subst (All P) same (All-map P (state_text d.names) ss each)

  closed_over : All (HasNeeds d.needs) ss → All (IsClosedState d) (all_states t)
  closed_over all =
      over (IsClosedState d)
      (λ k e low. (closed_text d is (get_or ss k e) (within k e low)).0 (all k e low))

  first_open_over : (place : ℕ) → IsFirstNot (HasNeeds d.needs) ss place
      → IsFirstNot (IsClosedState d) (all_states t) place
  first_open_over place (s, at, lacks, before) =
      let here : IsWithin (length d.names) s =
      all_at (IsWithin (length d.names)) ss place s at within in
      let front : All (IsWithin (length d.names)) (take place ss) =
      All-take (IsWithin (length d.names)) place ss within in
      subst (λ (l : List StateText). IsFirstNot (IsClosedState d) l place) same (
        state_text d.names s,
        slice_get-map (state_text d.names) ss place ∙ ap (option_map (state_text d.names)) at,
        (λ closed. lacks ((closed_text d is s here).1 closed)),
        subst (All (IsClosedState d)) (sym (take-map (state_text d.names) place ss))
            (All-map (IsClosedState d) (state_text d.names) (take place ss)
            (λ k e low. (closed_text d is (get_or (take place ss) k e) (front k e low)).0
            (before k e low))),
      )

  differ_over : DifferInTurn ss → TextsDiffer (all_states t)
  differ_over differ = subst TextsDiffer same (texts_differ d.names is.names.order ss within differ)

  as_many : length (all_states t) ≡ length ss
  as_many = sym (ap length same) ∙ length-map ss (state_text d.names)

  -- why the states make no line is why the text is refused
  pub told : (fault : LiveFault) → PassesNames d t → MakeNone d.needs t.bound ss fault
      → IsMeaningFault d t fault
  told (NotClosed place) passes none = (passes, first_open_over place none)
  told SameState passes none = (
    record { before = passes; closed = closed_over none.0 },
    λ differ. none.1 (states_differ d.names ss (subst TextsDiffer (sym same) differ)),
  )
  told OverBound passes none = (
    record {
      before = record { before = passes; closed = closed_over none.0 };
      differ =
          differ_over none.1;
    },
    omega (arith, none.2, as_many),
  )
  told (Bad offset) passes none = absurd none
  told Version passes none = absurd none
  told Unknown passes none = absurd none
  told OtherDb passes none = absurd none
  told Memory passes none = tt

  module _ (passes : PassesNames d t) (bound : ℕ) (makes : MakeLine d.needs t.bound ss bound)
      (line : Line) (has : states line ≡ ss) (at : cursor line ≡ length t.before)
      (is_bound : line.bound ≡ bound) where
    each_is : All (IsStateOf d) ss
    unfolding HasNeeds
    each_is k e low =
        let s : State = get_or ss k e in
        let knowns : All (IsKnownState d.names) (map (state_text d.names) ss) =
        subst (All (IsKnownState d.names)) (sym same) passes.known in
        record {
          bound = (within k e low).live;
          closed = makes.closed k e low;
          sets = (within k e low).sets;
          apart =
              bundles_apart d.names s
              (image_at (IsKnownState d.names) (state_text d.names) ss knowns k e low);
        }

    pub line_is : IsLine line → IsLineOf d line
    line_is is_line =
        record { is_line = is_line; each = subst (All (IsStateOf d)) (sym has) each_is }

    parts : (map (state_text d.names) line.before ≡ t.before)
        × (state_text d.names line.current ∷ map (state_text d.names) line.after
        ≡ t.current ∷ t.after)
    parts =
        let joined : map (state_text d.names) line.before
        ++ (state_text d.names line.current ∷ map (state_text d.names) line.after)
        ≡ t.before ++ t.current ∷ t.after =
        sym (map-append (state_text d.names) line.before (line.current ∷ line.after))
        ∙ (ap (map (state_text d.names)) has ∙ same) in
        split (map (state_text d.names) line.before) t.before
        (state_text d.names line.current ∷ map (state_text d.names) line.after)
        (t.current ∷ t.after)
        (length-map line.before (state_text d.names) ∙ at) joined

    text_is : (said : Option ℕ) → t.bound ≡ said → t ≡ text_with said d line
    text_is said bound_is =
        let before : map (state_text d.names) line.before ≡ t.before = parts.0 in
        let rest : state_text d.names line.current ∷ map (state_text d.names) line.after
        ≡ t.current ∷ t.after = parts.1 in
        let current : t.current ≡ state_text d.names line.current = cc in
        let after : t.after ≡ map (state_text d.names) line.after = cc in
        λ k. record {
          services = passes.before.services k;
          bound = bound_is k;
          before = (sym before) k;
          current = current k;
          after = after k;
        }

    pub says : (said : Option ℕ) → t.bound ≡ said → IsTextOf d t line said
    says (Some b) bound_is =
        let here : line.bound ≡ b =
        is_bound ∙ (makes.is ∙ ap (λ (o : Option ℕ). bound_for o (length ss)) bound_is) in
        text_is (Some b) bound_is ∙ ap (λ (n : ℕ). text_with (Some n) d line) (sym here)
    says None bound_is = (
      text_is None bound_is,
      is_bound
          ∙ (makes.is ∙ (ap (λ (o : Option ℕ). bound_for o (length ss)) bound_is
          ∙ ap (bound_for None) (ap length (sym has)))),
    )
