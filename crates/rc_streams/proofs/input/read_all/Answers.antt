use Rattle.std.proofs.Common.{◌≡◌, arith, refl}
use Rattle.std.proofs.KnownBytes.{Consumes-whole}
use Rattle.rc_streams.proofs.InputLemmas.{Consumes-longer, Consumes-piece, ConsumesAtMost-more}
use Rattle.rc_streams.proofs.InputLemmas.{MovesPiece-length}
use Rattle.rc_streams.proofs.input.read_all.Goals as goal

pub loop-bytes-preserved : goal.loop-bytes-preserved
loop-bytes-preserved g c = record {
  sound = λ failed. c.loop-bytes.invariant.sound (c.in_ok-take_piece.ensures.sound failed);
  within =
      omega (
        arith,
        MovesPiece-length _ _ _ _ _ c.in_ok-take_piece.ensures.moved,
        c.in_ok-take_piece.ensures.fits,
        c.take_piece.new.bytes.ok.0,
        c.loop-bytes.bytes.ok.0,
      );
  held = Consumes-piece _ _ _ _ _ _ c.loop-bytes.invariant.held c.in_ok-take_piece.ensures.moved;
}

pub returns-then-branch-eq0-clause-whole : goal.returns-then-branch-eq0-clause-whole
returns-then-branch-eq0-clause-whole g c =
    let held =
    Consumes-piece _ _ _ _ _ _ c.loop-bytes.invariant.held c.in_ok-take_piece.ensures.moved in
    Consumes-whole _ _ _ (λ input. c.take_piece.new.bytes.items ≡ input) held
    (c.in_ok-take_piece.ensures.end c.if-branch-eq0.true) refl

pub returns-then-branch-eq0-clause-taken : goal.returns-then-branch-eq0-clause-taken
returns-then-branch-eq0-clause-taken g c = (
  _,
  omega (
    arith,
    MovesPiece-length _ _ _ _ _ c.in_ok-take_piece.ensures.moved,
    c.in_ok-take_piece.ensures.fits,
    c.loop-bytes.bytes.ok.0,
  ),
  Consumes-piece _ _ _ _ _ _ c.loop-bytes.invariant.held c.in_ok-take_piece.ensures.moved,
)

pub returns-in_err-take_piece-clause-taken : goal.returns-in_err-take_piece-clause-taken
returns-in_err-take_piece-clause-taken g c =
    ConsumesAtMost-more _ _ _ _ _ _ c.loop-bytes.invariant.held c.in_err-take_piece.ensures.taken
    (omega (arith, c.loop-bytes.bytes.ok.0))

pub returns-clause-fault : goal.returns-clause-fault
returns-clause-fault g c =
    Consumes-longer _ _ _ _ c.loop-bytes.invariant.held (omega (arith, c.loop-bytes.bytes.ok.0))

pub returns-clause-taken : goal.returns-clause-taken
returns-clause-taken g c = (_, omega (arith, c.loop-bytes.bytes.ok.0), c.loop-bytes.invariant.held)
