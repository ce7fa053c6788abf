-- One part after another, of what is handed out.
use Rattle.std.proofs.Common.{◌≡◌, ◌≢◌, ◌∙◌, inl, inr, ℕ, ◌+◌, ◌<◌, true, false, List, [], ◌∷◌}
use Rattle.std.proofs.Common.{◌++◌, Option, length, take, drop, ◌-◌, ap, sym, refl}
use Rattle.std.proofs.Common.{subst, arith, append_assoc, take-append-drop, length-append}
use Rattle.std.proofs.Common.{length-drop}
use Rattle.std.proofs.lemmas.List.{append-nil, take_all}
use Rattle.std.proofs.lemmas.List.Elements.{All-append}
use Rattle.rc_streams.specs.declared.input.Failure.{Failure}
use Rattle.rc_streams.specs.declared.input.Failure.TheVariants.{TooLong, Read, Write, Memory}
use Rattle.std.specs.Io.KnownBytes.{Keeps}
use Rattle.std.proofs.KnownBytes.{Consumes-kept, Consumes-trans}
use Rattle.rc_streams.specs.Taking.{Held, BeginsTooLong, HandsOut, IsLine, IsOneLine, IsPartFault}
use Rattle.rc_streams.specs.Taking.{IsRefillFault, LacksLine, MovesPart, Refills, Takes}

-- what is held goes after the line, and there is no newline in it
pub hands_part : (old new : Option (List ℕ)) (before here after : Held) (line longer : List ℕ)
    → HandsOut old new before here line → MovesPart false here after line longer
    → HandsOut old new before after longer
hands_part old new before here after line longer hands moves =
    let (part, one, grows, count, held, none) = moves in
    record {
      bytes = hands.bytes;
      consumed = hands.consumed;
      counted = count ∙ hands.counted;
      split =
          hands.split ∙ (ap (λ (t : List ℕ). line ++ t) held
          ∙ (sym grows
          ∙ (sym (append-nil longer) ∙ ap (λ (t : List ℕ). longer ++ t) (sym (none refl)))));
    }

-- it goes after the line up to the newline, which goes with it
pub hands_whole : (old new : Option (List ℕ)) (before here after : Held) (line longer : List ℕ)
    → HandsOut old new before here line → MovesPart true here after line longer
    → HandsOut old new before after (longer ++ 10 ∷ [])
hands_whole old new before here after line longer hands moves =
    let (part, one, grows, count, held, none) = moves in
    record {
      bytes = hands.bytes;
      consumed = hands.consumed;
      counted = count ∙ hands.counted;
      split =
          hands.split ∙ (ap (λ (t : List ℕ). line ++ t) held
          ∙ (sym (append_assoc line part (10 ∷ after.pending))
          ∙ (ap (λ (t : List ℕ). t ++ 10 ∷ after.pending) (sym grows)
          ∙ sym (append_assoc longer (10 ∷ []) after.pending))));
    }

-- where nothing is held, the next piece is held
pub hands_more : (old here new : Option (List ℕ)) (before held after : Held) (line : List ℕ)
    (count : ℕ) → HandsOut old here before held line → held.pending ≡ []
    → Refills here new held after count → HandsOut old new before after line
hands_more old here new before held after line count hands none refills =
    let (consumed, long, counted, end) = refills in
    record {
      bytes = hands.bytes ++ after.pending;
      consumed = Consumes-trans old here new hands.bytes after.pending hands.consumed consumed;
      counted =
          omega (arith, hands.counted, counted, long, length-append hands.bytes after.pending);
      split =
          sym (append_assoc before.pending hands.bytes after.pending)
          ∙ ap (λ (t : List ℕ). t ++ after.pending)
          (hands.split ∙ (ap (λ (t : List ℕ). line ++ t) none ∙ append-nil line));
    }

-- what was handed out was taken
pub takes_of : (old new : Option (List ℕ)) (before after : Held) (line : List ℕ)
    → HandsOut old new before after line → Takes old new before.taken after.taken
takes_of old new before after line hands =
    record { bytes = hands.bytes; consumed = hands.consumed; counted = hands.counted }

pub takes_more : (old here new : Option (List ℕ)) (before held after : ℕ)
    → Takes old here before held → Takes here new held after → Takes old new before after
takes_more old here new before held after first last = record {
  bytes = first.bytes ++ last.bytes;
  consumed = Consumes-trans old here new first.bytes last.bytes first.consumed last.consumed;
  counted = omega (arith, first.counted, last.counted, length-append first.bytes last.bytes);
}

-- the line has no room for what is held
pub lacks_part : (failed : Type 0) (old new : Option (List ℕ)) (before here after : Held)
    (line : List ℕ) (failure : Failure) → HandsOut old new before here line → after ≡ here
    → IsPartFault (BeginsTooLong (line ++ here.pending)) failure
    → LacksLine failed old new before after failure
unfolding takes_of
lacks_part failed old new before here after line Read hands same fault = absurd fault
lacks_part failed old new before here after line Write hands same fault = absurd fault
lacks_part failed old new before here after line TooLong hands same fault =
    subst (λ (h : Held). LacksLine failed old new before h TooLong) (sym same)
    (record {
      takes = takes_of old new before here line hands;
      fault =
          inr (subst BeginsTooLong (sym hands.split) fault);
    })
lacks_part failed old new before here after line Memory hands same fault =
    subst (λ (h : Held). LacksLine failed old new before h Memory) (sym same)
    (record { takes = takes_of old new before here line hands; fault = tt })

-- nothing was taken after what was handed out
takes_kept : (old here new : Option (List ℕ)) (before held : Held) (after : ℕ) (line : List ℕ)
    → HandsOut old here before held line → Keeps here new → after ≡ held.taken
    → Takes old new before.taken after
takes_kept old here new before held after line hands kept count = record {
  bytes = hands.bytes;
  consumed = Consumes-kept old here new hands.bytes hands.consumed kept;
  counted = count ∙ hands.counted;
}

-- where nothing more is held, all that was is the line
all_held : (old here : Option (List ℕ)) (before held : Held) (line : List ℕ)
    (hands : HandsOut old here before held line) → held.pending ≡ []
    → before.pending ++ hands.bytes ≡ line
all_held old here before held line hands none =
    hands.split ∙ (ap (λ (t : List ℕ). line ++ t) none ∙ append-nil line)

-- there is no next piece
pub lacks_piece : (failed : Type 0) (old here new : Option (List ℕ)) (before held after : Held)
    (line : List ℕ) (failure : Failure) → HandsOut old here before held line
    → held.pending ≡ [] → IsLine line
    → Takes here new held.taken after.taken
    → IsRefillFault failed here new held.taken after.taken failure
    → LacksLine failed old new before after failure
unfolding takes_kept
lacks_piece failed old here new before held after line Read hands none one takes fault =
    let (was, kept, count, within) = fault in
    record {
      takes = takes_kept old here new before held after.taken line hands kept count;
      fault =
          (was, subst IsLine (sym (all_held old here before held line hands none)) one, within);
    }
lacks_piece failed old here new before held after line Write hands none one takes fault =
    absurd fault
lacks_piece failed old here new before held after line TooLong hands none one takes fault =
    let (kept, count, passed) = fault in
    record {
      takes = takes_kept old here new before held after.taken line hands kept count;
      fault =
          inl (subst IsLine (sym (all_held old here before held line hands none)) one, passed);
    }
lacks_piece failed old here new before held after line Memory hands none one takes fault = record {
  takes =
      takes_more old here new before.taken held.taken after.taken
      (takes_of old here before held line hands) takes;
  fault = tt;
}

-- a part at the beginning of what is held, with no newline in it, for which the line has no room
pub begins_long : (line held pending : List ℕ) (end : ℕ) → pending ≡ held → IsOneLine line
    → IsOneLine (take end held) → 65536 < length line + length (take end held)
    → BeginsTooLong (line ++ pending)
begins_long line held pending end is one part long = (
  line ++ take end held,
  drop end held,
  All-append (λ byte. byte ≢ 10) line (take end held) one part,
  omega (arith, long, length-append line (take end held)),
  ap (λ (t : List ℕ). line ++ t) (is ∙ sym (take-append-drop end held))
      ∙ sym (append_assoc line (take end held) (drop end held)),
)

-- all of what is held, likewise
pub whole_long : (line held pending : List ℕ) → pending ≡ held → IsOneLine line → IsOneLine held
    → 65536 < length line + length held → BeginsTooLong (line ++ pending)
whole_long line held pending is one part long = (
  line ++ held,
  [],
  All-append (λ byte. byte ≢ 10) line held one part,
  omega (arith, long, length-append line held),
  ap (λ (t : List ℕ). line ++ t) is ∙ sym (append-nil (line ++ held)),
)

-- a part that is too long is so for one more reason
pub part_as : (P Q : Type 0) (failure : Failure) → (P → Q) → IsPartFault P failure
    → IsPartFault Q failure
part_as P Q Read long fault = fault
part_as P Q Write long fault = fault
part_as P Q TooLong long fault = long fault
part_as P Q Memory long fault = fault

-- what is held, as a slice of the piece
pub held_of : (used : ℕ) (piece : List ℕ)
    → take (length piece - used) (drop used piece) ≡ drop used piece
held_of used piece =
    take_all (length piece - used) (drop used piece) (omega (arith, length-drop used piece))
