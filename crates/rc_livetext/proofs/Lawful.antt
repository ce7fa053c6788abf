-- The text of a line is refused as out of memory alone.
use Rattle.std.proofs.Common.{◌≡◌, ◌≢◌, ◌∙◌, ◌≤◌, ◌++◌, inl, inr, ℕ, Bool, List, [], ◌∷◌, Option}
use Rattle.std.proofs.Common.{Some, None, IfSome, length, map, get_or, Contains, All, arith, refl}
use Rattle.std.proofs.Common.{sym, ap, subst}
use Rattle.std.proofs.lemmas.List.{append-nil, map-append, length-map}
use Rattle.std.proofs.lemmas.List.Elements.{All-head, All-tail, All-nil, All-cons}
use Rattle.std.proofs.lemmas.List.Elements.{All-contains_itself}
use Rattle.rc_model.specs.Names.{IsInByteOrder}
use Rattle.rc_model.specs.Database.{Bundles, HaveBound, names_of, Database, IsDatabase}
use Rattle.rc_model.specs.Line.{State, Line, states}
use Rattle.rc_model.specs.Session.{IsStateOf, IsLineOf}
use Rattle.rc_dbtext.specs.Words.{BundleText}
use Rattle.rc_livetext.specs.declared.form_fault.FormFault.{FormFault}
use Rattle.rc_livetext.specs.declared.form_fault.FormFault.TheVariants as form
use Rattle.rc_livetext.specs.Text.{LiveText, StateText, IsBound, IsLiveText, live_text}
use Rattle.rc_livetext.specs.Refusals.{BeginsWith, IsRefused}
use Rattle.rc_livetext.specs.declared.fault.LiveFault.{LiveFault}
use Rattle.rc_livetext.specs.declared.fault.LiveFault.TheVariants.{Bad, Version, Unknown, NotClosed}
use Rattle.rc_livetext.specs.declared.fault.LiveFault.TheVariants.{SameState, OtherDb, Memory}
use Rattle.rc_livetext.specs.declared.fault.LiveFault.TheVariants.{OverBound}
use Rattle.rc_livetext.specs.Meaning.{IsClosedState, IsKnownState, IsOver, PassesServices}
use Rattle.rc_livetext.specs.Meaning.{TextsDiffer, all_states, most_states}
use Rattle.rc_livetext.specs.LiveFaults.{IsLiveFault}
use Rattle.rc_dbtext.specs.Spelling.{bundle_text}
use Rattle.rc_livetext.specs.Spelling.{state_text, text_with, text_of, old_text_of, spelling}
use Rattle.rc_livetext.specs.Spelling.{old_spelling}
use Rattle.rc_livetext.proofs.Naming.{closed_named, members_known}
use Rattle.rc_livetext.proofs.Texts.{all_within, line_is_text, texts_differ}
use Rattle.rc_livetext.proofs.OneFault.{FormLaws, not_all_closed}

-- the states of a line's text are the texts of its states
texts_of : (p : Option ℕ) (d : Database) (line : Line)
    → all_states (text_with p d line) ≡ map (state_text d.names) (states line)
texts_of p d line = sym (map-append (state_text d.names) line.before (line.current ∷ line.after))

all_map : {X Y : Type 0} (P : X → Type 0) (Q : Y → Type 0) (f : X → Y) (xs : List X)
    → ((x : X) → P x → Q (f x)) → All P xs → All Q (map f xs)
all_map P Q f [] each all = All-nil Q
all_map P Q f (x ∷ xs) each all =
    All-cons Q (f x) (map f xs) (each x (All-head P x xs all))
    (all_map P Q f xs each (All-tail P x xs all))

-- a bundle of a table has one of its names
named_bundles : (names : List (List ℕ)) (order : IsInByteOrder names) (table : Bundles)
    → HaveBound (length names) table
    → All (λ b. All (Contains names) b.members) (map (bundle_text names) table)
named_bundles names order [] below = All-nil (λ (b : BundleText). All (Contains names) b.members)
named_bundles names order (b ∷ table) below =
    let Long : List ℕ × List Bool → Type 0 = λ bundle. length bundle.1 ≡ length names in
    All-cons (λ (t : BundleText). All (Contains names) t.members) (bundle_text names b)
    (map (bundle_text names) table)
    (members_known names order b.1 (All-head Long b table below))
    (named_bundles names order table (All-tail Long b table below))

apart_bundles : (names all : List (List ℕ)) (table : Bundles)
    → All (λ name. Contains all name → ⊥) (names_of table)
    → All (λ b. Contains all b.name → ⊥) (map (bundle_text names) table)
apart_bundles names all [] apart = All-nil (λ (b : BundleText). Contains all b.name → ⊥)
apart_bundles names all (b ∷ table) apart =
    let P : List ℕ → Type 0 = λ name. Contains all name → ⊥ in
    All-cons (λ (t : BundleText). Contains all t.name → ⊥) (bundle_text names b)
    (map (bundle_text names) table)
    (All-head P b.0 (names_of table) apart)
    (apart_bundles names all table (All-tail P b.0 (names_of table) apart))

known : (d : Database) (is : IsDatabase d) (s : State) → IsStateOf d s
    → IsKnownState d.names (state_text d.names s)
known d is s of = record {
  live = members_known d.names is.names.order s.live of.bound;
  members = named_bundles d.names is.names.order s.table of.sets;
  apart =
      apart_bundles d.names d.names s.table
      (λ k e within has. of.apart (get_or (names_of s.table) k e) has
      (All-contains_itself (names_of s.table) k e within));
}

-- a closed state has a closed text
closed : (d : Database) (is : IsDatabase d) (s : State) → IsStateOf d s
    → IsClosedState d (state_text d.names s)
closed d is s of = (closed_named d.names is.names.order s.live of.bound d.needs).0 of.closed

module _ (laws : FormLaws) (d : Database) (is : IsDatabase d) (line : Line) (of : IsLineOf d line)
    (p : Option ℕ) (is_p : IfSome p IsBound) (few : length (states line) ≤ most_states p) where
  abbrev pub text : LiveText
  text = text_with p d line

  is_text : IsLiveText text
  is_text = line_is_text d is line of p is_p

  over_states : (P : StateText → Type 0) → ((s : State) → IsStateOf d s → P (state_text d.names s))
      → All P (all_states text)
  over_states P each =
      subst (All P) (sym (texts_of p d line))
      (all_map (IsStateOf d) P (state_text d.names) (states line) each of.each)

  same_text : (rest : List ℕ) (t : LiveText) → BeginsWith (live_text text ++ []) t rest → text ≡ t
  same_text rest t begins = laws.value text t [] rest is_text begins.0 begins.1

  no_form_fault : (fault : FormFault) → fault ≢ form.Memory → IsRefused (live_text text ++ []) fault
      → ⊥
  no_form_fault fault other refused = other (laws.refused text [] fault is_text refused)

  more_behind : (t : LiveText) (rest : List ℕ) → BeginsWith (live_text text ++ []) t rest
      → rest ≡ []
  more_behind t rest begins =
      laws.front t text rest begins.0 is_text (sym begins.1 ∙ append-nil (live_text text))

  knowns : All (IsKnownState d.names) (all_states text)
  knowns = over_states (IsKnownState d.names) (known d is)

  closeds : All (IsClosedState d) (all_states text)
  closeds = over_states (IsClosedState d) (closed d is)

  differs : TextsDiffer (all_states text)
  differs =
      subst TextsDiffer (sym (texts_of p d line))
      (texts_differ d.names is.names.order (states line) (all_within d (states line) of.each)
      of.is_line.held.differ)

  not_over : IsOver text → ⊥
  not_over over =
      omega (
        arith,
        over,
        few,
        ap length (texts_of p d line),
        length-map (states line) (state_text d.names),
      )

  pub refused_never : (fault : LiveFault) → IsLiveFault d (live_text text ++ []) fault
      → fault ≡ Memory
  refused_never (Bad offset) found = elim found [
    | inl bad ↦ absurd (no_form_fault (form.Bad bad.0) (λ same. cc) bad.2)
    | inr more ↦ absurd (more.3 (more_behind more.0 more.1 more.2))
  ]
  refused_never Version found = absurd (no_form_fault form.Version (λ same. cc) found)
  refused_never OtherDb found =
      absurd
      (found.2 (subst (PassesServices d) (same_text [] found.0 found.1)
      (record { services = refl })))
  refused_never Unknown found =
      absurd
      (found.2.1 (subst (λ (t : LiveText). All (IsKnownState d.names) (all_states t))
      (same_text [] found.0 found.1) knowns))
  refused_never (NotClosed place) found =
      absurd (not_all_closed d found.0 place found.2.1
      (subst (λ (t : LiveText). All (IsClosedState d) (all_states t)) (same_text [] found.0 found.1)
      closeds))
  refused_never SameState found =
      absurd
      (found.2.1 (subst (λ (t : LiveText). TextsDiffer (all_states t))
      (same_text [] found.0 found.1) differs))
  refused_never OverBound found =
      absurd (not_over (subst IsOver (sym (same_text [] found.0 found.1)) found.2.1))
  refused_never Memory found = refl

pub new_never : (laws : FormLaws) (d : Database) (line : Line) (fault : LiveFault) → IsDatabase d
    → IsLineOf d line → IsLiveFault d (spelling d line) fault → fault ≡ Memory
unfolding spelling
new_never laws d line fault is of found =
    refused_never laws d is line of (Some line.bound) of.is_line.bound of.is_line.few fault
    (subst (λ (l : List ℕ). IsLiveFault d l fault) (sym (append-nil (live_text (text_of d line))))
    found)

pub old_never : (laws : FormLaws) (d : Database) (line : Line) (fault : LiveFault) → IsDatabase d
    → IsLineOf d line → IsLiveFault d (old_spelling d line) fault → fault ≡ Memory
unfolding old_spelling
old_never laws d line fault is of found =
    refused_never laws d is line of None tt (omega (arith, of.is_line.few, of.is_line.bound.1))
    fault (subst (λ (l : List ℕ). IsLiveFault d l fault)
    (sym (append-nil (live_text (old_text_of d line)))) found)
