-- The next line of a reader, and what each way out of the loop leaves: of the input, of the bytes
-- that are held, and of the count of those that were read. The loop either takes a part of what is
-- held or reads more of it. Its invariant says what the line has by now; the lemmas of Handing and
-- Pieces say how one turn leads it on. It ends since no more than the bound and a byte is read.
use Rattle.std.proofs.Common.{◌≡◌, ◌≢◌, ◌∙◌, ◌⊎◌, inl, inr, ℕ, ◌+◌, ◌-◌, ◌<◌, ◌≤◌, Bool, true}
use Rattle.std.proofs.Common.{false, List, length, arith, ap, refl, sym, subst}
use Rattle.std.proofs.lemmas.Bool.{eq-eqb, eqb-true, false≢true}
use Rattle.std.proofs.lemmas.List.Elements.{All-append}
use Rattle.std.proofs.lemmas.List.{nil_from_length}
use Rattle.std.proofs.lemmas.Result.{IfOk-from_err}
use Rattle.rc_streams.specs.Noting.{HasFailed, inner_of}
use Rattle.rc_streams.specs.Taking.{Held, IsLine, IsOneLine, LacksLine, MovesPart}
use Rattle.rc_streams.proofs.Handing.{hands_part, hands_more, hands_whole, lacks_part, lacks_piece}
use Rattle.rc_streams.proofs.Handing.{takes_of, takes_more}
use Rattle.rc_streams.proofs.Pieces.{as_read, takes_same, told_as}
use Rattle.rc_streams.proofs.lines.Lines.next.Goals as goal
use Rattle.rc_streams.proofs.lines.Lines.next.Goals.{then-is_empty, else-is_empty}

-- what is held went after the line, with no newline in it
part : (held after : Held) (line longer : List ℕ) (whole : Bool)
    → MovesPart whole held after line longer → whole ≡ false
    → MovesPart false held after line longer
part held after line longer whole moves is =
    subst (λ (b : Bool). MovesPart b held after line longer) is moves

-- it went up to its newline
ended : (held after : Held) (line longer : List ℕ) (whole : Bool)
    → MovesPart whole held after line longer → whole ≡ true → MovesPart true held after line longer
ended held after line longer whole moves is =
    subst (λ (b : Bool). MovesPart b held after line longer) is moves

-- the longer line holds no newline
one_line : (whole : Bool) (held after : Held) (line longer : List ℕ) → IsOneLine line
    → MovesPart whole held after line longer → IsOneLine longer
one_line whole held after line longer one moves =
    let (part, none, grows, rest, more, end) = moves in
    subst IsOneLine (sym grows) (All-append (λ byte. byte ≢ 10) line part one none)

-- what was held at first is one line: no read was made before, or it was so then
waited : (first held after : Held) (Unread : Type 0) (line longer : List ℕ)
    → IsOneLine first.pending ⊎ ((held ≡ first) × Unread) → MovesPart false held after line longer
    → IsOneLine first.pending
waited first held after Unread line longer (inl one) moves = one
waited first held after Unread line longer (inr same) moves =
    subst IsOneLine (sym moves.4 ∙ ap (λ (h : Held). h.pending) same.0) moves.1

-- no read was made, or what was held is one line
unread : {P Q R : Type 0} → P ⊎ (Q × R) → P ⊎ R
unread (inl one) = inl one
unread (inr same) = inr same.1

-- more was read, within the bound and a byte
falls : (before here after count : ℕ) → here ≡ before → after ≡ here + count → (count ≡ 0 → ⊥)
    → after ≤ 16777217 → 16777218 - after < 16777218 - before
falls before here after count same more some within = omega arith

pub returns-in_err-take_line-clause-line : goal.returns-in_err-take_line-clause-line
returns-in_err-take_line-clause-line g c = IfOk-from_err _ _ c.from_residual.ensures.0

pub returns-in_err-take_line-clause-sound : goal.returns-in_err-take_line-clause-sound
returns-in_err-take_line-clause-sound g c = IfOk-from_err _ _ c.from_residual.ensures.0

pub returns-in_err-take_line-clause-waits : goal.returns-in_err-take_line-clause-waits
returns-in_err-take_line-clause-waits g c = unread c.loop-line.invariant.waits

pub returns-in_err-take_line-clause-taken : goal.returns-in_err-take_line-clause-taken
returns-in_err-take_line-clause-taken g c =
    takes_same _ _ _ _ _ c.in_err-take_line.ensures.same
    (takes_of _ _ _ _ _ c.loop-line.invariant.hands)

pub returns-in_err-take_line-clause-told : goal.returns-in_err-take_line-clause-told
returns-in_err-take_line-clause-told g c = λ failed. absurd (c.loop-line.invariant.sound failed)

pub returns-then-branch-clause-line : goal.returns-then-branch-clause-line
returns-then-branch-clause-line g c =
    let moves = ended _ _ _ _ _ c.in_ok-take_line.ensures.moved c.if-branch.true in (
      (one_line true _ _ _ _ c.loop-line.invariant.one.0 moves, c.in_ok-take_line.ensures.short),
      hands_whole _ _ _ _ _ _ _ c.loop-line.invariant.hands moves,
    )

pub returns-then-branch-clause-waits : goal.returns-then-branch-clause-waits
returns-then-branch-clause-waits g c = unread c.loop-line.invariant.waits

pub returns-then-branch-clause-taken : goal.returns-then-branch-clause-taken
returns-then-branch-clause-taken g c =
    takes_of _ _ _ _ _
    (hands_whole _ _ _ _ _ _ _ c.loop-line.invariant.hands
    (ended _ _ _ _ _ c.in_ok-take_line.ensures.moved c.if-branch.true))

pub returns-then-branch-clause-told : goal.returns-then-branch-clause-told
returns-then-branch-clause-told g c = λ failed. absurd (c.loop-line.invariant.sound failed)

pub returns-in_err-refill-clause-line : goal.returns-in_err-refill-clause-line
returns-in_err-refill-clause-line g c = IfOk-from_err _ _ c.from_residual-in_err-refill.ensures.0

pub returns-in_err-refill-clause-sound : goal.returns-in_err-refill-clause-sound
returns-in_err-refill-clause-sound g c = IfOk-from_err _ _ c.from_residual-in_err-refill.ensures.0

pub returns-in_err-refill-clause-waits : goal.returns-in_err-refill-clause-waits
returns-in_err-refill-clause-waits g c =
    inl (waited _ _ _ _ _ _ c.loop-line.invariant.waits
    (part _ _ _ _ _ c.in_ok-take_line.ensures.moved c.if-branch.false))

pub returns-in_err-refill-clause-told : goal.returns-in_err-refill-clause-told
returns-in_err-refill-clause-told g c =
    λ failed. as_read _ _ c.from_residual-in_err-refill.ensures.1
    (c.in_err-refill.ensures.told failed)

pub returns-then-branch-eq0-clause-waits : goal.returns-then-branch-eq0-clause-waits
returns-then-branch-eq0-clause-waits g c =
    inl (waited _ _ _ _ _ _ c.loop-line.invariant.waits
    (part _ _ _ _ _ c.in_ok-take_line.ensures.moved c.if-branch.false))

pub returns-then-branch-eq0-clause-told : goal.returns-then-branch-eq0-clause-told
returns-then-branch-eq0-clause-told g c = λ failed. absurd (c.in_ok-refill.ensures.sound failed)

pub loop-line-smaller : goal.loop-line-smaller
loop-line-smaller g c =
    let moves = part _ _ _ _ _ c.in_ok-take_line.ensures.moved c.if-branch.false in
    falls _ _ _ _ moves.3 c.in_ok-refill.ensures.read.2 c.if-branch-eq0.false
    c.in_ok-refill.ensures.within

pub returns-in_err-take_line-clause-fault : goal.returns-in_err-take_line-clause-fault
returns-in_err-take_line-clause-fault g c =
    let lacks : LacksLine (HasFailed c.loop-line.reader)
    (g.R.Read.remaining (inner_of c.args.reader.now))
    (g.R.Read.remaining (inner_of c.loop-line.reader)) c.args.self.now c.take_line.new.self
    c.in_err-take_line.field-0.0 =
    lacks_part _ _ _ _ _ _ _ _ c.loop-line.invariant.hands c.in_err-take_line.ensures.same
    c.in_err-take_line.ensures.fault in
    told_as _ _ c.from_residual.ensures.1 lacks

pub returns-in_err-refill-clause-fault : goal.returns-in_err-refill-clause-fault
returns-in_err-refill-clause-fault g c =
    let moves = part _ _ _ _ _ c.in_ok-take_line.ensures.moved c.if-branch.false in
    let line : IsLine c.take_line.new.line.items =
    (one_line false _ _ _ _ c.loop-line.invariant.one.0 moves, c.in_ok-take_line.ensures.short) in
    let lacks : LacksLine (HasFailed c.refill.new.reader)
    (g.R.Read.remaining (inner_of c.args.reader.now))
    (g.R.Read.remaining (inner_of c.refill.new.reader)) c.args.self.now c.refill.new.self
    c.in_err-refill.field-0.0 =
    lacks_piece _ _ _ _ _ _ _ _ _ (hands_part _ _ _ _ _ _ _ c.loop-line.invariant.hands moves)
    (moves.5 refl) line c.in_err-refill.ensures.taken c.in_err-refill.ensures.fault in
    told_as _ _ c.from_residual-in_err-refill.ensures.1 lacks

pub returns-in_err-refill-clause-taken : goal.returns-in_err-refill-clause-taken
returns-in_err-refill-clause-taken g c =
    let moves = part _ _ _ _ _ c.in_ok-take_line.ensures.moved c.if-branch.false in
    takes_more _ _ _ _ _ _
    (takes_of _ _ _ _ _ (hands_part _ _ _ _ _ _ _ c.loop-line.invariant.hands moves))
    c.in_err-refill.ensures.taken

pub returns-then-branch-eq0-clause-line : goal.returns-then-branch-eq0-clause-line
returns-then-branch-eq0-clause-line g c =
    let moves = part _ _ _ _ _ c.in_ok-take_line.ensures.moved c.if-branch.false in
    let read = c.in_ok-refill.ensures.read in
    let hands = hands_more _ _ _ _ _ _ _ _
    (hands_part _ _ _ _ _ _ _ c.loop-line.invariant.hands moves) (moves.5 refl) read in
    let none = nil_from_length c.refill.new.self.pending (read.1 ∙ c.if-branch-eq0.true) in
    elim c.if-is_empty.branch [
      | then-is_empty w ↦
          let long = eqb-true _ 0 (sym c.is_empty.ensures ∙ w.if-is_empty.true) in
          let empty =
          nil_from_length c.take_line.new.line.items (sym c.take_line.new.line.ok.0 ∙ long) in
          rw w.result-is (
            rw empty at hands,
            (none, (read.3 c.if-branch-eq0.true).0, (read.3 c.if-branch-eq0.true).1),
          )
      | else-is_empty w ↦ rw w.result-is (
        (one_line false _ _ _ _ c.loop-line.invariant.one.0 moves, c.in_ok-take_line.ensures.short),
        hands,
        (λ is. false≢true
            (sym w.if-is_empty.false
            ∙ (c.is_empty.ensures ∙ eq-eqb _ 0 (c.take_line.new.line.ok.0 ∙ ap length is)))),
        (none, (read.3 c.if-branch-eq0.true).0, (read.3 c.if-branch-eq0.true).1),
      )
    ]

pub returns-then-branch-eq0-clause-taken : goal.returns-then-branch-eq0-clause-taken
returns-then-branch-eq0-clause-taken g c =
    let moves = part _ _ _ _ _ c.in_ok-take_line.ensures.moved c.if-branch.false in
    takes_more _ _ _ _ _ _
    (takes_of _ _ _ _ _ (hands_part _ _ _ _ _ _ _ c.loop-line.invariant.hands moves))
    c.in_ok-refill.ensures.taken

pub loop-line-preserved : goal.loop-line-preserved
loop-line-preserved g c =
    let moves = part _ _ _ _ _ c.in_ok-take_line.ensures.moved c.if-branch.false in
    record {
      sound = c.in_ok-refill.ensures.sound;
      one = (
        one_line false _ _ _ _ c.loop-line.invariant.one.0 moves,
        c.in_ok-take_line.ensures.short,
      );
      waits = inl (waited _ _ _ _ _ _ c.loop-line.invariant.waits moves);
      hands =
          hands_more _ _ _ _ _ _ _ _ (hands_part _ _ _ _ _ _ _ c.loop-line.invariant.hands moves)
          (moves.5 refl) c.in_ok-refill.ensures.read;
    }
