-- Lines of a database as live texts: each is one, and of one text there is one line.
use Rattle.std.specs.Prelude.{max}
use Rattle.std.proofs.Common.{◌≡◌, ◌∙◌, inl, inr, ℕ, Bool, List, [], ◌∷◌, ◌++◌, length, map, get_or}
use Rattle.std.proofs.Common.{All, Option, Some, None, IfSome, refl, ap, sym, subst, arith}
use Rattle.std.proofs.Common.{length-append}
use Rattle.std.proofs.lemmas.List.{length-map, append-nil}
use Rattle.std.proofs.lemmas.List.Elements.{All-head, All-tail, All-nil, All-cons, All-map}
use Rattle.std.proofs.lemmas.Option.{same_Some}
use Rattle.rc_model.specs.Names.{IsName, IsInByteOrder}
use Rattle.rc_model.specs.Database.{Bundles, IsTable, HaveBound, names_of, Database, IsDatabase}
use Rattle.rc_model.specs.Line.{State, Line, DifferInTurn, states}
use Rattle.rc_model.specs.Session.{IsStateOf, IsLineOf}
use Rattle.rc_model.proofs.Lists.{all_front, all_back}
use Rattle.rc_dbtext.specs.Words.{BundleText}
use Rattle.rc_dbtext.specs.Spelling.{bundle_text, members, name_at}
use Rattle.rc_dbtext.proofs.Naming.{names_ascend}
use Rattle.rc_dbtext.proofs.Bundling.{members_ascend}
use Rattle.rc_dbtext.proofs.Unique.{flags_once, head_once, ids_once, members_low, tables_once}
use Rattle.rc_dbtext.proofs.Unique.{tail_once}
use Rattle.rc_line.proofs.Closings.{same_line}
use Rattle.rc_livetext.specs.Text.{LiveText, StateText, IsLiveText, IsStateText, IsBundleText}
use Rattle.rc_livetext.specs.Text.{AreAscending, IsBound, live_text}
use Rattle.rc_livetext.specs.Meaning.{TextsDiffer}
use Rattle.rc_livetext.specs.Parts.{IsWithin}
use Rattle.rc_livetext.specs.Spelling.{state_text, text_with, text_of, old_text_of, spelling}
use Rattle.rc_livetext.specs.Spelling.{old_spelling, Spells}

-- the bundles of a table keep their names
pub names_kept : (names : List (List ℕ)) (table : Bundles)
    → map (λ (b : BundleText). b.name) (map (bundle_text names) table) ≡ names_of table
names_kept names [] = refl
names_kept names (b ∷ table) = ap (λ (l : List (List ℕ)). b.0 ∷ l) (names_kept names table)

module _ (d : Database) (is : IsDatabase d) where
  ascending : (set : List Bool) → length set ≡ length d.names
      → AreAscending (map (name_at d.names) (members set))
  ascending set long =
      let low = members_low d.names is.names.order set long in
      record {
        order = names_ascend d.names (members set) is.names.order (members_ascend set) low;
        each =
            All-map IsName (name_at d.names) (members set)
            (λ k e within. is.names.each (get_or (members set) k e) [] (low k e within));
      }

  bundles_are : (table : Bundles) → All IsName (names_of table) → HaveBound (length d.names) table
      → All IsBundleText (map (bundle_text d.names) table)
  bundles_are [] each below = All-nil IsBundleText
  bundles_are (b ∷ table) each below =
      let Long : List ℕ × List Bool → Type 0 = λ bundle. length bundle.1 ≡ length d.names in
      All-cons IsBundleText (bundle_text d.names b) (map (bundle_text d.names) table)
      (record {
        name = All-head IsName b.0 (names_of table) each;
        members =
            ascending b.1 (All-head Long b table below);
      })
      (bundles_are table (All-tail IsName b.0 (names_of table) each) (All-tail Long b table below))

  state_is : (s : State) → IsStateOf d s → IsTable s.table → IsStateText (state_text d.names s)
  state_is s of table = record {
    live = ascending s.live of.bound;
    order = subst IsInByteOrder (sym (names_kept d.names s.table)) table.order;
    few = omega (arith, table.few, length-map s.table (bundle_text d.names));
    each = bundles_are s.table table.each of.sets;
  }

  states_are : (ss : List State) → All (IsStateOf d) ss → All (λ (s : State). IsTable s.table) ss
      → All IsStateText (map (state_text d.names) ss)
  states_are [] of tables = All-nil IsStateText
  states_are (s ∷ ss) of tables =
      let Kept : State → Type 0 = λ s. IsTable s.table in
      All-cons IsStateText (state_text d.names s) (map (state_text d.names) ss)
      (state_is s (All-head (IsStateOf d) s ss of) (All-head Kept s ss tables))
      (states_are ss (All-tail (IsStateOf d) s ss of) (All-tail Kept s ss tables))

  -- a line can be spelled
  pub line_is_text : (line : Line) → IsLineOf d line → (bound : Option ℕ) → IfSome bound IsBound
      → IsLiveText (text_with bound d line)
  line_is_text line of bound is_bound =
      let Kept : State → Type 0 = λ s. IsTable s.table in
      let tables : All Kept (line.before ++ line.current ∷ line.after) = of.is_line.held.tables in
      let tables_on = all_back Kept line.before (line.current ∷ line.after) tables in
      let of_on = all_back (IsStateOf d) line.before (line.current ∷ line.after) of.each in
      record {
        services = record { order = is.names.order; each = is.names.each };
        bound = is_bound;
        before =
            states_are line.before
            (all_front (IsStateOf d) line.before (line.current ∷ line.after) of.each)
            (all_front Kept line.before (line.current ∷ line.after) tables);
        current =
            state_is line.current (All-head (IsStateOf d) line.current line.after of_on)
            (All-head Kept line.current line.after tables_on);
        after =
            states_are line.after (All-tail (IsStateOf d) line.current line.after of_on)
            (All-tail Kept line.current line.after tables_on);
      }

-- a state of a database has sets of its services
pub within_of : (d : Database) (s : State) → IsStateOf d s → IsWithin (length d.names) s
within_of d s of = record { live = of.bound; sets = of.sets }

pub all_within : (d : Database) (ss : List State) → All (IsStateOf d) ss
    → All (IsWithin (length d.names)) ss
all_within d ss each k e low = within_of d (get_or ss k e) (each k e low)

module _ (names : List (List ℕ)) (order : IsInByteOrder names) where
  set_once : (a b : List Bool) → length a ≡ length names → length b ≡ length names
      → map (name_at names) (members a) ≡ map (name_at names) (members b) → a ≡ b
  set_once a b long_a long_b same =
      flags_once a b (long_a ∙ sym long_b)
      (ids_once names order (members a) (members b) (members_low names order a long_a)
      (members_low names order b long_b) same)

  -- a state is that of its text
  pub state_once : (a b : State) → IsWithin (length names) a → IsWithin (length names) b
      → state_text names a ≡ state_text names b → a ≡ b
  state_once a b is_a is_b same =
      let live : a.live ≡ b.live =
      set_once a.live b.live is_a.live is_b.live (ap (λ (t : StateText). t.live) same) in
      let table : a.table ≡ b.table = tables_once names order a.table b.table is_a.sets is_b.sets
      (ap (λ (t : StateText). t.bundles) same) in
      λ k. record { live = live k; table = table k }

  pub states_once : (a b : List State) → All (IsWithin (length names)) a
      → All (IsWithin (length names)) b → map (state_text names) a ≡ map (state_text names) b
      → a ≡ b
  states_once [] [] is_a is_b same = refl
  states_once [] (y ∷ b) is_a is_b same = absurd (omega (arith, ap length same))
  states_once (x ∷ a) [] is_a is_b same = absurd (omega (arith, ap length same))
  states_once (x ∷ a) (y ∷ b) is_a is_b same =
      let Is : State → Type 0 = IsWithin (length names) in
      let heads = head_once (state_text names x) (state_text names y) (map (state_text names) a)
      (map (state_text names) b) same in
      let tails = tail_once (state_text names x) (state_text names y) (map (state_text names) a)
      (map (state_text names) b) same in
      let first : x ≡ y = state_once x y (All-head Is x a is_a) (All-head Is y b is_b) heads in
      let rest : a ≡ b = states_once a b (All-tail Is x a is_a) (All-tail Is y b is_b) tails in
      λ k. first k ∷ rest k

  -- neighbours that differ have texts that do
  pub texts_differ : (ss : List State) → All (IsWithin (length names)) ss → DifferInTurn ss
      → TextsDiffer (map (state_text names) ss)
  texts_differ [] each apart = tt
  texts_differ (a ∷ []) each apart = tt
  texts_differ (a ∷ b ∷ rest) each apart =
      let Is : State → Type 0 = IsWithin (length names) in
      let on : All Is (b ∷ rest) = All-tail Is a (b ∷ rest) each in (
        λ same. apart.0
            (state_once a b (All-head Is a (b ∷ rest) each) (All-head Is b rest on) same),
        texts_differ (b ∷ rest) on apart.1,
      )

-- and the other way round
pub states_differ : (names : List (List ℕ)) (ss : List State)
    → TextsDiffer (map (state_text names) ss) → DifferInTurn ss
states_differ names [] apart = tt
states_differ names (a ∷ []) apart = tt
states_differ names (a ∷ b ∷ rest) apart =
    ((λ same. apart.0 (ap (state_text names) same)), states_differ names (b ∷ rest) apart.1)

module _ (d : Database) (is : IsDatabase d) where
  -- lines that say the same, but for the bound, have the same states
  pub parts_once : (p q : Option ℕ) (a b : Line) → IsLineOf d a → IsLineOf d b
      → text_with p d a ≡ text_with q d b
      → (p ≡ q) × (a.before ≡ b.before) × (a.current ≡ b.current) × (a.after ≡ b.after)
  parts_once p q a b of_a of_b same =
      let Is : State → Type 0 = IsWithin (length d.names) in
      let all_a : All Is (a.before ++ a.current ∷ a.after) = all_within d (states a) of_a.each in
      let all_b : All Is (b.before ++ b.current ∷ b.after) = all_within d (states b) of_b.each in
      let on_a : All Is (a.current ∷ a.after) = all_back Is a.before (a.current ∷ a.after) all_a in
      let on_b : All Is (b.current ∷ b.after) = all_back Is b.before (b.current ∷ b.after) all_b in
      let order : IsInByteOrder d.names = is.names.order in (
        ap (λ (t : LiveText). t.bound) same,
        states_once d.names order a.before b.before
            (all_front Is a.before (a.current ∷ a.after) all_a)
            (all_front Is b.before (b.current ∷ b.after) all_b)
            (ap (λ (t : LiveText). t.before) same),
        state_once d.names order a.current b.current (All-head Is a.current a.after on_a)
            (All-head Is b.current b.after on_b) (ap (λ (t : LiveText). t.current) same),
        states_once d.names order a.after b.after (All-tail Is a.current a.after on_a)
            (All-tail Is b.current b.after on_b) (ap (λ (t : LiveText). t.after) same),
      )

-- the prefix law of the forms, as a premise
abbrev pub IsFrontLaw : Type 0
IsFrontLaw = (a b : LiveText) (rest : List ℕ) → IsLiveText a → IsLiveText b
    → live_text a ++ rest ≡ live_text b → rest ≡ []

abbrev pub IsValueLaw : Type 0
IsValueLaw = (a b : LiveText) (x y : List ℕ) → IsLiveText a → IsLiveText b
    → live_text a ++ x ≡ live_text b ++ y → a ≡ b

pub spelled_front : (d e : Database) (a b : Line) (rest : List ℕ) → IsFrontLaw → IsDatabase d
    → IsDatabase e → IsLineOf d a → IsLineOf e b → spelling d a ++ rest ≡ spelling e b → rest ≡ []
unfolding spelling
spelled_front d e a b rest law is_d is_e of_a of_b same =
    law (text_of d a) (text_of e b) rest
    (line_is_text d is_d a of_a (Some a.bound) of_a.is_line.bound)
    (line_is_text e is_e b of_b (Some b.bound) of_b.is_line.bound) same

pub old_spelled_front : (d e : Database) (a b : Line) (rest : List ℕ) → IsFrontLaw → IsDatabase d
    → IsDatabase e → IsLineOf d a → IsLineOf e b → old_spelling d a ++ rest ≡ old_spelling e b
    → rest ≡ []
unfolding old_spelling
old_spelled_front d e a b rest law is_d is_e of_a of_b same =
    law (old_text_of d a) (old_text_of e b) rest (line_is_text d is_d a of_a None tt)
    (line_is_text e is_e b of_b None tt) same

module _ (d : Database) (is_d : IsDatabase d) (law : IsValueLaw) (a b : Line) (of_a : IsLineOf d a)
    (of_b : IsLineOf d b) where
  -- texts of two lines are texts of the same states
  both : (p q : Option ℕ) → IfSome p IsBound → IfSome q IsBound
      → live_text (text_with p d a) ≡ live_text (text_with q d b)
      → (p ≡ q) × (a.before ≡ b.before) × (a.current ≡ b.current) × (a.after ≡ b.after)
  both p q is_p is_q same =
      parts_once d is_d p q a b of_a of_b
      (law (text_with p d a) (text_with q d b) [] [] (line_is_text d is_d a of_a p is_p)
      (line_is_text d is_d b of_b q is_q)
      (append-nil (live_text (text_with p d a)) ∙ same
      ∙ sym (append-nil (live_text (text_with q d b)))))

  pub spelled_once : (bytes : List ℕ) → Spells d bytes a → Spells d bytes b → a ≡ b
  unfolding spelling old_spelling
  spelled_once bytes of_bytes_a of_bytes_b = elim of_bytes_a [
    | inl new_a ↦ elim of_bytes_b [
      | inl new_b ↦
          let parts = both (Some a.bound) (Some b.bound) of_a.is_line.bound of_b.is_line.bound
          (sym new_a ∙ new_b) in
          same_line a b parts.1 parts.2 parts.3 (same_Some a.bound b.bound parts.0)
      | inr old_b ↦
          let parts = both (Some a.bound) None of_a.is_line.bound tt (sym new_a ∙ old_b.0) in
          absurd (let bad : Some a.bound ≡ None = parts.0 in cc)
    ]
    | inr old_a ↦ elim of_bytes_b [
      | inl new_b ↦
          let parts = both None (Some b.bound) tt of_b.is_line.bound (sym old_a.0 ∙ new_b) in
          absurd (let bad : None ≡ Some b.bound = parts.0 in cc)
      | inr old_b ↦
          let parts = both None None tt tt (sym old_a.0 ∙ old_b.0) in
          let counts : length (states a) ≡ length (states b) =
          omega (
            arith,
            length-append a.before (a.current ∷ a.after),
            length-append b.before (b.current ∷ b.after),
            ap length parts.1,
            ap length parts.3,
          ) in
          same_line a b parts.1 parts.2 parts.3 (old_a.1 ∙ ap (max 1024) counts ∙ sym old_b.1)
    ]
  ]
