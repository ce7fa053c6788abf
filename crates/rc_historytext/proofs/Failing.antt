-- Why calls fail, put together from what the calls below them say.
use Rattle.std.proofs.Common.{◌≡◌, ◌≢◌, ◌∙◌, ◌⊎◌, inl, inr, ◌<◌, ℕ, zero, suc, List, [], ◌∷◌, ◌++◌}
use Rattle.std.proofs.Common.{All, arith, false, get_or, length, map, not, refl, subst, sym}
use Rattle.std.proofs.Common.{Bool, Some, ap, slice_get}
use Rattle.std.specs.Prelude.{if◌then◌else◌}
use Rattle.std.specs.List.{filter}
use Rattle.std.proofs.lemmas.List.{append-nil, map-append}
use Rattle.std.proofs.lemmas.List.Elements.{All-cons, All-head, All-nil, All-tail, filter-append}
use Rattle.rc_update.specs.Conversions.{Conversion, conversion_of, conversions_of}
use Rattle.rc_update.specs.declared.conversion.Conversion.{Conversion as Given}
use Rattle.rc_livetext.specs.declared.form_fault.FormFault.{FormFault}
use Rattle.rc_livetext.specs.declared.form_fault.FormFault.TheVariants as form
use Rattle.rc_livetext.specs.Text.{LiveText, IsLiveText, live_text}
use Rattle.rc_livetext.specs.Refusals.{BeginsWith, IsRefused}
use Rattle.rc_historytext.specs.declared.fault.HistoryFault.{HistoryFault}
use Rattle.rc_historytext.specs.declared.fault.HistoryFault.TheVariants.{Bad, Version, Memory}
use Rattle.rc_historytext.specs.Text.{GenerationText, HistoryText, RenameText, IsRename}
use Rattle.rc_historytext.specs.Faults.{IsHistoryFault}
use Rattle.rc_historytext.specs.States.{IsSession, Cuts, cut_behind}
use Rattle.rc_historytext.specs.Present.{IsAt, IsPresent}
use Rattle.rc_historytext.specs.Updating.{IsLeft, rename_of, renames_of}
use Rattle.rc_historytext.specs.Keeping.{StandsThere}
use Rattle.rc_historytext.specs.CallFaults.{IsEnterFault, IsOnceFault, IsPutFault, IsRenamesFault}
use Rattle.rc_historytext.specs.CallFaults.{IsSessionFault, IsStandingFault, IsText}
use Rattle.rc_historytext.proofs.OneFault.{not_refused}
use Rattle.rc_historytext.proofs.Presents.{some_once}

-- a fault of a form that is not out of memory
abbrev is_memory : FormFault → Type 0
is_memory (form.Bad left) = ⊥
is_memory form.Version = ⊥
is_memory form.Memory = Unit {0}

pub bad_is_other : (left : ℕ) (fault : FormFault) → fault ≡ form.Bad left → fault ≢ form.Memory
bad_is_other left fault is same = subst is_memory (sym same ∙ is) tt

pub version_is_other : (fault : FormFault) → fault ≡ form.Version → fault ≢ form.Memory
version_is_other fault is same = subst is_memory (sym same ∙ is) tt

-- bytes whose form is refused are no session
pub none_refused : (bytes : List ℕ) (fault : FormFault)
    → ((t : LiveText) (rest : List ℕ) (f : FormFault) → IsLiveText t
    → IsRefused (live_text t ++ rest) f → f ≡ form.Memory) → IsRefused bytes fault
    → fault ≢ form.Memory → (s : LiveText) → IsSession bytes s → ⊥
none_refused bytes fault law refused other s is =
    other
    (law s [] fault is.is
    (subst (λ (b : List ℕ). IsRefused b fault) (is.spelled ∙ sym (append-nil (live_text s)))
    refused))

-- nor are bytes that go on behind a session
pub none_behind : (bytes rest : List ℕ) (t : LiveText)
    → ((a b : LiveText) (more : List ℕ) → IsLiveText a → IsLiveText b
    → live_text a ++ more ≡ live_text b → more ≡ []) → BeginsWith bytes t rest
    → (rest ≡ [] → ⊥) → (s : LiveText) → IsSession bytes s → ⊥
none_behind bytes rest t law begins some s is =
    some (law t s rest begins.0 is.is (sym begins.1 ∙ is.spelled))

-- out of memory is a fault of each call
pub stand_memory : (bytes : List ℕ) (fault : HistoryFault) → fault ≡ Memory
    → IsStandingFault bytes fault
stand_memory bytes fault is =
    subst (λ (f : HistoryFault). IsStandingFault bytes f) (sym is) (inl tt)

pub put_memory : (bytes session : List ℕ) (fault : HistoryFault) → fault ≡ Memory
    → IsPutFault bytes session fault
put_memory bytes session fault is =
    subst (λ (f : HistoryFault). IsPutFault bytes session f) (sym is) (inl (inl tt))

pub once_memory : (bytes session : List ℕ) (fault : HistoryFault) → fault ≡ Memory
    → IsOnceFault bytes session fault
once_memory bytes session fault is =
    subst (λ (f : HistoryFault). IsOnceFault bytes session f) (sym is) (inl tt)

pub text_memory : (bytes : List ℕ) (fault : HistoryFault) → fault ≡ Memory
    → IsHistoryFault bytes fault
text_memory bytes fault is =
    subst (λ (f : HistoryFault). IsHistoryFault bytes f) (sym is) tt

-- a history with a present session is one
pub present_text : (bytes database session : List ℕ) → IsPresent bytes database session
    → IsText bytes
present_text bytes database session (t, g, at, is, reads) = (t, at.is, at.spelled)

-- the present session of a history is refused
pub stand_present : (bytes : List ℕ) (t : HistoryText) (g : GenerationText) (fault : HistoryFault)
    → IsAt bytes t g → IsSessionFault g.session fault → IsStandingFault bytes fault
stand_present bytes t g fault at refused =
    inr (g.session, (g.database, (t, g, at, refl, refl)), refused)

-- so is one at the place of the present one
pub at_place_of : (t : HistoryText) (g h : GenerationText) (session : List ℕ)
    (fault : HistoryFault) → slice_get t.generations t.present ≡ Some g
    → slice_get t.generations t.present ≡ Some h
    → IsSessionFault g.session fault ⊎ IsSessionFault session fault
    → IsSessionFault h.session fault ⊎ IsSessionFault session fault
at_place_of t g h session fault one other refused =
    subst
    (λ (x : GenerationText). IsSessionFault x.session fault ⊎ IsSessionFault session fault)
    (some_once g h (sym one ∙ other)) refused

-- it is, or the session that is to be put there
pub put_either : (bytes session : List ℕ) (t : HistoryText) (g : GenerationText)
    (fault : HistoryFault) → IsAt bytes t g
    → IsSessionFault g.session fault ⊎ IsSessionFault session fault
    → IsPutFault bytes session fault
put_either bytes session t g fault at (inl old) = inl (stand_present bytes t g fault at old)
put_either bytes session t g fault at (inr new) = inr ((t, at.is, at.spelled), new)

-- a session is refused only if memory runs out
session_told : (bytes : List ℕ) (s : LiveText) (fault : HistoryFault) → IsSession bytes s
    → IsSessionFault bytes fault → fault ≡ Memory
session_told bytes s Memory is refused = refl
session_told bytes s Version is refused = absurd refused
session_told bytes s (Bad offset) is refused = absurd (refused.1 s is)

-- so a session that was cut is not refused
put_cut : (bytes session cut : List ℕ) (fault : HistoryFault) → Cuts session cut
    → IsPutFault bytes cut fault → IsPutFault bytes session fault
put_cut bytes session cut fault cuts (inl refused) = inl refused
put_cut bytes session cut fault (s, is, left) (inr (text, refused)) =
    put_memory bytes session fault (session_told cut (cut_behind s) fault left refused)

pub once_cut : (bytes session cut : List ℕ) (fault : HistoryFault) → Cuts session cut
    → (StandsThere bytes session → ⊥) → IsOnceFault bytes cut fault
    → IsOnceFault bytes session fault
once_cut bytes session cut fault cuts other (inl refused) = inl refused
once_cut bytes session cut fault cuts other (inr (another, refused)) =
    inr (other, put_cut bytes session cut fault cuts refused)

-- nor is a history that was left
pub enter_refused : (bytes left : List ℕ) (list : List Conversion) (fault : HistoryFault)
    → IsLeft bytes left → IsHistoryFault left fault ⊎ IsRenamesFault list fault
    → IsEnterFault bytes list fault
enter_refused bytes left list fault (t, g, cut, at, cuts, (u, h, s, there, says, is, spelled))
    (inl refused) =
    inl
    (stand_memory bytes fault
    (not_refused _ fault is (subst (λ (b : List ℕ). IsHistoryFault b fault) spelled refused)))
enter_refused bytes left list fault leaves (inr refused) = inr (left, leaves, refused)

-- the renames of some conversions and of others
pub renames_join : (xs ys : List Conversion)
    → renames_of (xs ++ ys) ≡ renames_of xs ++ renames_of ys
renames_join xs ys =
    ap (map rename_of) (filter-append (λ (c : Conversion). not c.restart) xs ys)
    ∙ map-append rename_of (filter (λ (c : Conversion). not c.restart) xs)
    (filter (λ (c : Conversion). not c.restart) ys)

front_all : (xs ys : List RenameText) → All IsRename (xs ++ ys) → All IsRename xs
front_all [] ys each = All-nil IsRename
front_all (x ∷ xs) ys each =
    All-cons IsRename x xs (All-head IsRename x (xs ++ ys) each)
    (front_all xs ys (All-tail IsRename x (xs ++ ys) each))

back_all : (xs ys : List RenameText) → All IsRename (xs ++ ys) → All IsRename ys
back_all [] ys each = each
back_all (x ∷ xs) ys each = back_all xs ys (All-tail IsRename x (xs ++ ys) each)

-- where all renames are of names, that of each conversion is
one_all : (list : List Given) (i : ℕ) (d : Given) → i < length list
    → All IsRename (renames_of (conversions_of list))
    → All IsRename (renames_of (conversion_of (get_or list i d) ∷ []))
one_all [] i d low each = absurd (omega (arith, low))
one_all (x ∷ xs) zero d low each =
    front_all (renames_of (conversion_of x ∷ [])) (renames_of (conversions_of xs))
    (subst (All IsRename) (renames_join (conversion_of x ∷ []) (conversions_of xs)) each)
one_all (x ∷ xs) (suc i) d low each =
    one_all xs i d (omega (arith, low))
    (back_all (renames_of (conversion_of x ∷ [])) (renames_of (conversions_of xs))
    (subst (All IsRename) (renames_join (conversion_of x ∷ []) (conversions_of xs)) each))

-- so what refuses one refuses all
pub one_refused : (list : List Given) (i : ℕ) (d : Given) (fault : HistoryFault) → i < length list
    → IsRenamesFault (conversion_of (get_or list i d) ∷ []) fault
    → IsRenamesFault (conversions_of list) fault
one_refused list i d Memory low refused = tt
one_refused list i d Version low refused = absurd refused
one_refused list i d (Bad offset) low refused =
    (refused.0, (λ each. refused.1 (one_all list i d low each)))

-- the rename of a conversion that does not only restart a service
one_rename : (c : Conversion) → c.restart ≡ false → renames_of (c ∷ []) ≡ rename_of c ∷ []
one_rename c is =
    ap (λ (b : Bool). map rename_of (if not b then c ∷ [] else [])) is

pub no_rename : (c : Conversion) (fault : HistoryFault) → c.restart ≡ false
    → (fault ≡ Bad 0) × (IsRename (rename_of c) → ⊥) → IsRenamesFault (c ∷ []) fault
no_rename c fault kept (is, none) =
    subst (λ (f : HistoryFault). IsRenamesFault (c ∷ []) f) (sym is) (
      refl,
      λ each. none
          (All-head IsRename (rename_of c) []
          (subst (All IsRename) (one_rename c kept) each)),
    )
