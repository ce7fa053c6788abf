use Rattle.std.proofs.Common.{◌≡◌, ◌≢◌, ◌∙◌, ◌+◌, ◌-◌, ◌<◌, ◌++◌, ◌∷◌, [], ℕ, List, All, arith, ap}
use Rattle.std.proofs.Common.{sym, inl, inr, refl, take, drop, get_or, length}
use Rattle.std.proofs.lemmas.Bool.{eqb-true, eq-eqb}
use Rattle.std.proofs.lemmas.Grind.{get_or_default_zero}
use Rattle.std.proofs.lemmas.List.{take-append-drop, take_more, get_or-drop, length-drop}
use Rattle.rc_recovery.proofs.texts.whole_lines.Goals as goal

-- bytes have no newline where none stands at a place of theirs
no_newline : (bytes : List ℕ) → ((k : ℕ) → k < length bytes → get_or bytes k 0 ≡ 10 → ⊥)
    → All (λ byte. byte ≢ 10) bytes
no_newline bytes none k d low is = none k low (sym (get_or_default_zero bytes k d low) ∙ is)

pub returns-in-Some : goal.returns-in-Some
returns-in-Some c =
    let bytes : List ℕ = c.args.bytes.now in
    let end : ℕ = c.in-Some.end in
    let last = c.in-Some.ensures in
    let low : end < length bytes = last.0.high in
    record {
      part = drop (end + 1) bytes;
      bytes_are = sym (take-append-drop (end + 1) bytes);
      ends = inr (
        take end bytes,
        take_more bytes end 0 low
            ∙ ap (λ (b : ℕ). take end bytes ++ b ∷ []) (eqb-true (get_or bytes end 0) 10 last.1),
      );
      torn = no_newline (drop (end + 1) bytes) (λ k within is.
          let long : length (drop (end + 1) bytes) ≡ length bytes - (end + 1) =
          length-drop (end + 1) bytes in
          last.0.after (end + 1 + k) (omega arith) (omega (arith, within, long))
          (eq-eqb (get_or bytes (end + 1 + k) 0) 10 (sym (get_or-drop (end + 1) bytes k 0) ∙ is)));
    }

pub returns-in-None : goal.returns-in-None
returns-in-None c = record {
  part = c.args.bytes.now;
  bytes_are = refl;
  ends = inl refl;
  torn = no_newline c.args.bytes.now (λ k within is.
      c.in-None.ensures k (omega arith) within (eq-eqb (get_or c.args.bytes.now k 0) 10 is));
}
