-- The lines of a history tell which one it is.
use Rattle.std.proofs.Common.{◌≡◌, ◌∙◌, List, [], ◌∷◌, ◌++◌, length, map, arith, refl}
use Rattle.std.proofs.Common.{sym, append_assoc}
use Rattle.std.specs.List.{flat_map}
use Rattle.rc_historytext.specs.Text.{Line, OfRename, Last, RenameText}
use Rattle.rc_historytext.specs.Text.{GenerationText, HistoryText, generation_lines, history_lines}

renames_once : (rs ss : List RenameText) (x y : List Line) → length rs ≡ length ss
    → map OfRename rs ++ x ≡ map OfRename ss ++ y → (rs ≡ ss) × (x ≡ y)
renames_once [] [] x y long same = (refl, same)
renames_once [] (s ∷ ss) x y long same = absurd (omega arith)
renames_once (r ∷ rs) [] x y long same = absurd (omega arith)
renames_once (r ∷ rs) (s ∷ ss) x y long same =
    let tails : map OfRename rs ++ x ≡ map OfRename ss ++ y = cc in
    let first : r ≡ s = cc in
    let rest = renames_once rs ss x y (omega arith) tails in
    ((λ i. first i ∷ rest.0 i), rest.1)

generation_once : (g h : GenerationText) (x y : List Line)
    → generation_lines g ++ x ≡ generation_lines h ++ y → (g ≡ h) × (x ≡ y)
generation_once g h x y same =
    let first : g.first_passed ≡ h.first_passed = cc in
    let last : g.last_passed ≡ h.last_passed = cc in
    let database : g.database ≡ h.database = cc in
    let session : g.session ≡ h.session = cc in
    let long : length g.renames ≡ length h.renames = cc in
    let tails : map OfRename g.renames ++ x ≡ map OfRename h.renames ++ y = cc in
    let rest = renames_once g.renames h.renames x y long tails in (
      (λ i. record {
        first_passed = first i;
        last_passed = last i;
        database = database i;
        session = session i;
        renames = rest.0 i;
      }),
      rest.1,
    )

generations_once : (gs hs : List GenerationText) (x y : List Line) → length gs ≡ length hs
    → flat_map generation_lines gs ++ x ≡ flat_map generation_lines hs ++ y → gs ≡ hs
generations_once [] [] x y long same = refl
generations_once [] (h ∷ hs) x y long same = absurd (omega arith)
generations_once (g ∷ gs) [] x y long same = absurd (omega arith)
generations_once (g ∷ gs) (h ∷ hs) x y long same =
    let both = generation_once g h (flat_map generation_lines gs ++ x)
    (flat_map generation_lines hs ++ y)
    (sym (append_assoc (generation_lines g) (flat_map generation_lines gs) x) ∙ same
    ∙ append_assoc (generation_lines h) (flat_map generation_lines hs) y) in
    let rest = generations_once gs hs x y (omega arith) both.1 in
    λ i. both.0 i ∷ rest i

-- a history is that of its lines
pub histories_once : (a b : HistoryText) → history_lines a ≡ history_lines b → a ≡ b
histories_once a b same =
    let present : a.present ≡ b.present = cc in
    let long : length a.generations ≡ length b.generations = cc in
    let tails : flat_map generation_lines a.generations ++ Last ∷ []
    ≡ flat_map generation_lines b.generations ++ Last ∷ [] = cc in
    let generations =
    generations_once a.generations b.generations (Last ∷ []) (Last ∷ []) long tails in
    λ i. record { present = present i; generations = generations i }
