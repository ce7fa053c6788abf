-- What goes after a line, of the piece that is held.
use Rattle.std.proofs.Common.{◌≡◌, ◌≢◌, ◌∙◌, ℕ, ◌+◌, ◌-◌, ◌<◌, ◌≤◌, true, false, List, [], ◌∷◌}
use Rattle.std.proofs.Common.{◌++◌, length, take, drop, zero-le, ap, sym, arith, take-append-drop}
use Rattle.std.proofs.Common.{length-take, length-drop}
use Rattle.std.proofs.lemmas.Bool.{true≢false}
use Rattle.std.proofs.lemmas.List.{drop_more, drop-drop, get_or-take, length-take-le}
use Rattle.std.proofs.Math.ListN.{drop_of_length-le}
use Rattle.std.specs.List.{AllWithin, HoldsAt}
use Rattle.rc_streams.specs.Taking.{IsOneLine}
use Rattle.rc_streams.proofs.Handing.{held_of}

-- the first newline stands there
abbrev pub EndsAt : List ℕ → ℕ → Type 0
EndsAt held end = (end < length held) × HoldsAt (λ byte. byte ≡ 10) held end
    × AllWithin (λ byte. byte ≢ 10) held 0 end

-- what stands in front of it is one line
pub one_part : (held : List ℕ) (end : ℕ) → EndsAt held end → IsOneLine (take end held)
one_part held end (within, here, front) k d low is =
    let before : k < end = omega (arith, low, length-take-le end held (omega (arith, within))) in
    front k d zero-le before (sym (get_or-take end held k d before) ∙ is)

-- of the piece, as a slice from the place up to which it was used
abbrev pub rest_of : ℕ → List ℕ → List ℕ
rest_of used bytes = take (length bytes - used) (drop used bytes)

pub whole_part : (used end taken before : ℕ) (bytes piece pending line longer : List ℕ)
    → pending ≡ drop used piece → bytes ≡ piece → EndsAt (rest_of used bytes) end
    → longer ≡ line ++ take end (rest_of used bytes) → taken ≡ before
    → (part : List ℕ) × IsOneLine part × (longer ≡ line ++ part) × (taken ≡ before)
    × (pending ≡ part ++ 10 ∷ drop (used + (end + 1)) piece)
    × (true ≡ false → drop (used + (end + 1)) piece ≡ [])
whole_part used end taken before bytes piece pending line longer is same ends grows count =
    let held : List ℕ = rest_of used bytes in
    let all : held ≡ drop used piece = held_of used bytes ∙ ap (drop used) same in
    let split : held ≡ take end held ++ 10 ∷ drop (end + 1) held =
    sym (take-append-drop end held) ∙ ap (λ (t : List ℕ). take end held ++ t)
    (drop_more held end 0 ends.0 ∙ ap (λ (byte : ℕ). byte ∷ drop (end + 1) held) (ends.1 0)) in (
      take end held,
      one_part held end ends,
      grows,
      count,
      is ∙ sym all ∙ split ∙ ap (λ (t : List ℕ). take end held ++ 10 ∷ t)
          (ap (drop (end + 1)) all ∙ drop-drop (end + 1) used piece),
      λ no. absurd (true≢false no),
    )

pub no_end : (used now taken before : ℕ) (bytes piece pending line longer : List ℕ)
    → pending ≡ drop used piece → bytes ≡ piece
    → AllWithin (λ byte. byte ≢ 10) (rest_of used bytes) 0 (length (rest_of used bytes))
    → longer ≡ line ++ rest_of used bytes → taken ≡ before → now ≡ length piece
    → (part : List ℕ) × IsOneLine part × (longer ≡ line ++ part) × (taken ≡ before)
    × (pending ≡ part) × (false ≡ false → drop now piece ≡ [])
no_end used now taken before bytes piece pending line longer is same none grows count long = (
  rest_of used bytes,
  λ k d low. none k d zero-le low,
  grows,
  count,
  is ∙ sym (held_of used bytes ∙ ap (drop used) same),
  λ _. drop_of_length-le piece (omega (arith, long)),
)

-- what is used then is no more than the piece
pub used_within : (used end long : ℕ) (bytes held : List ℕ) → held ≡ rest_of used bytes
    → end < length held → length bytes ≡ long → used + (end + 1) ≤ long
used_within used end long bytes held is within whole =
    omega (arith, within, whole, simp (length-take, length-drop) at (ap length is))

-- what is held is within the piece
pub used_low : (used long : ℕ) (bytes : List ℕ) → used ≤ long → length bytes ≡ long
    → used ≤ length bytes
used_low used long bytes low whole = omega (arith, low, whole)
