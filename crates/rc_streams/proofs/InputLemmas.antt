-- One step after another, of what is taken from a reader and of what a writer gets.
use Rattle.std.proofs.Common.{◌≡◌, ℕ, ◌+◌, ◌-◌, ◌<◌, ◌≤◌, List, [], ◌++◌, Option, None, Some}
use Rattle.std.proofs.Common.{IfSome, length, take, drop, sym, ap, ◌∙◌, subst, append_assoc}
use Rattle.std.proofs.Common.{take-append-drop, length-append, length-take, zero-le, arith}
use lib.Seq.{take-append_seam}
use Rattle.std.specs.Io.KnownBytes.{Appends, Consumes, Keeps}
use Rattle.std.proofs.KnownBytes.{Appends-trans, Consumes-kept, Consumes-nil, Consumes-trans}
use Rattle.std.proofs.lemmas.List.{take_rest}
use Rattle.rc_streams.specs.Input.{AppendsFront, ConsumesAtMost, MovesPiece}

-- some bytes, and then a piece
pub ConsumesAtMost-more : (a b c : Option (List ℕ)) (bytes : List ℕ) (limit total : ℕ)
    → Consumes a b bytes → ConsumesAtMost b c limit → length bytes + limit ≤ total
    → ConsumesAtMost a c total
ConsumesAtMost-more a b c bytes limit total held piece fits = (
  bytes ++ piece.0,
  omega (arith, length-append bytes piece.0),
  Consumes-trans a b c bytes piece.0 held piece.2,
)

-- a prefix of the bytes, by what comes after it
pub AppendsFront-split : (a b : Option (List ℕ)) (bytes front rest : List ℕ) → bytes ≡ front ++ rest
    → Appends a b front → AppendsFront a b bytes
AppendsFront-split a b bytes front rest e written = (
  length front,
  subst (Appends a b) (sym (ap (take (length front)) e ∙ take-append_seam front rest)) written,
)

-- a prefix of the first part
pub AppendsFront-first : (a b : Option (List ℕ)) (first last : List ℕ) → AppendsFront a b first
    → AppendsFront a b (first ++ last)
AppendsFront-first a b first last written =
    let n = written.0 in
    AppendsFront-split a b _ (take n first) (drop n first ++ last)
    (ap (λ l. l ++ last) (sym (take-append-drop n first))
    ∙ append_assoc (take n first) (drop n first) last) written.1

-- the first part, and a prefix of the last
pub AppendsFront-last : (a b c : Option (List ℕ)) (bytes first last : List ℕ)
    → bytes ≡ first ++ last → Appends a b first → AppendsFront b c last → AppendsFront a c bytes
AppendsFront-last a b c bytes first last e before written =
    let n = written.0 in
    AppendsFront-split a c bytes (first ++ take n last) (drop n last)
    (e ∙ ap (λ l. first ++ l) (sym (take-append-drop n last))
    ∙ sym (append_assoc first (take n last) (drop n last)))
    (Appends-trans a b c first (take n last) before written.1)

-- a write takes the first n bytes of what was left
pub front_moves : (all done rest : List ℕ) (n : ℕ) → all ≡ done ++ rest
    → all ≡ (done ++ take n rest) ++ take (length rest - n) (drop n rest)
front_moves all done rest n e =
    e ∙ ap (λ l. done ++ l) (sym (take-append-drop n rest))
    ∙ sym (append_assoc done (take n rest) (drop n rest))
    ∙ ap (λ l. (done ++ take n rest) ++ l) (sym (take_rest rest n))

-- what is held, and then a piece
pub Consumes-piece : (a b c : Option (List ℕ)) (before after : List ℕ) (count : ℕ)
    → Consumes a b before → MovesPiece b c before after count → Consumes a c after
Consumes-piece a b c before after count held moved =
    subst (Consumes a c) (sym moved.2) (Consumes-trans a b c before moved.0 held moved.3)

-- more was there than was taken
pub Consumes-longer : (a b : Option (List ℕ)) (bytes : List ℕ) (n : ℕ) → Consumes a b bytes
    → n < length bytes → IfSome a (λ input. n < length input)
Consumes-longer None b bytes n held long = tt
Consumes-longer (Some x) None bytes n held long = absurd held
Consumes-longer (Some x) (Some y) bytes n held long =
    omega (arith, simp length-append at (ap length held))

-- how much is held after a piece
pub MovesPiece-length : (b c : Option (List ℕ)) (before after : List ℕ) (count : ℕ)
    → MovesPiece b c before after count → length after ≡ length before + count
MovesPiece-length b c before after count moved =
    ap length moved.2 ∙ length-append before moved.0 ∙ ap (λ n. length before + n) moved.1

-- a read that failed
pub ConsumesAtMost-none : (a b : Option (List ℕ)) (limit : ℕ) → Keeps a b → ConsumesAtMost a b limit
ConsumesAtMost-none a b limit kept = ([], zero-le, Consumes-kept a a b [] (Consumes-nil a) kept)

-- a read that gave the prefix of a buffer
pub ConsumesAtMost-read : (a b : Option (List ℕ)) (buffer : List ℕ) (count limit : ℕ)
    → length buffer ≤ limit → Consumes a b (take count buffer) → ConsumesAtMost a b limit
ConsumesAtMost-read a b buffer count limit fits taken =
    (take count buffer, simp length-take (omega arith), taken)
