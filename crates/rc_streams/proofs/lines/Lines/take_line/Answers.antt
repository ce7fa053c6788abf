use Rattle.std.proofs.Common.{rules, ◌≡◌, ◌≢◌, ◌++◌, ◌∙◌, ◌≤◌, length, drop, zero-le, ap, subst}
use Rattle.std.proofs.Common.{sym, ℕ, List, arith}
use borrow.Author.Tests.{tests}
use Rattle.std.proofs.lemmas.Iterator.{IsFirst-from_position, YieldsList-from_slice}
use Rattle.std.specs.List.{AllWithin}
use Rattle.std.proofs.lemmas.Result.{IfOk-from_err}
use Rattle.rc_streams.specs.Taking.{Held, BeginsTooLong, IsPartFault}
use Rattle.rc_streams.proofs.Handing.{begins_long, held_of, part_as, whole_long}
use Rattle.rc_streams.proofs.Parts.{EndsAt, no_end, one_part, rest_of, used_low, used_within}
use Rattle.rc_streams.proofs.Parts.{whole_part}
use Rattle.rc_streams.proofs.Pieces.{told_as}
use Rattle.rc_streams.proofs.lines.Lines.take_line.Goals as goal

as_much : (n m : ℕ) → n ≡ m → n ≤ m
as_much n m same = omega (arith, same)

pub slice_bounds-held-count : goal.slice_bounds-held-count
slice_bounds-held-count c = used_low _ _ _ c.self.invariant.0 c.deref.ensures.len

pub returns-in_err-add_part-in-Some-clause-moved : goal.returns-in_err-add_part-in-Some-clause-moved
returns-in_err-add_part-in-Some-clause-moved c = IfOk-from_err _ _ c.from_residual.ensures.0

pub returns-in_err-add_part-in-Some-clause-short : goal.returns-in_err-add_part-in-Some-clause-short
returns-in_err-add_part-in-Some-clause-short c = IfOk-from_err _ _ c.from_residual.ensures.0

pub returns-in_err-add_part-in-Some-clause-within :
    goal.returns-in_err-add_part-in-Some-clause-within
returns-in_err-add_part-in-Some-clause-within c =
    subst (λ (n : ℕ). n ≤ 16777217) (ap (λ (h : Held). h.taken) c.self.view_is) c.self.invariant.1

pub returns-in_err-add_part-in-Some-clause-fault : goal.returns-in_err-add_part-in-Some-clause-fault
returns-in_err-add_part-in-Some-clause-fault c =
    let held : List ℕ = rest_of c.self.inside.used c.deref.result.now in
    let is : c.args.self.now.pending ≡ held = ap (λ (h : Held). h.pending) (sym c.self.view_is)
    ∙ (ap (λ (t : List ℕ). drop c.self.inside.used t) (sym c.deref.ensures.value)
    ∙ sym (held_of c.self.inside.used c.deref.result.now)) in
    let ends : EndsAt held c.in-Some.end = IsFirst-from_position _ _ _ (λ byte. byte ≡ 10)
    (λ byte. byte ≢ 10) c.in-Some.ensures.ran (YieldsList-from_slice held c.iter.ensures.rest)
    (λ x q k. search (rules, tests)) (λ x q k. search (rules, tests)) in
    let fault : IsPartFault (BeginsTooLong (c.args.line.now.items ++ c.args.self.now.pending))
    c.in_err-add_part-in-Some.field-0.0 =
    part_as _ _ c.in_err-add_part-in-Some.field-0.0
    (begins_long c.args.line.now.items held c.args.self.now.pending c.in-Some.end is c.requires
    (one_part held c.in-Some.end ends)) c.in_err-add_part-in-Some.ensures.fault in
    told_as _ _ c.from_residual.ensures.1 fault

pub returns-in_err-add_part-in-None-clause-moved : goal.returns-in_err-add_part-in-None-clause-moved
returns-in_err-add_part-in-None-clause-moved c =
    IfOk-from_err _ _ c.from_residual-in_err-add_part-in-None.ensures.0

pub returns-in_err-add_part-in-None-clause-short : goal.returns-in_err-add_part-in-None-clause-short
returns-in_err-add_part-in-None-clause-short c =
    IfOk-from_err _ _ c.from_residual-in_err-add_part-in-None.ensures.0

pub returns-in_err-add_part-in-None-clause-within :
    goal.returns-in_err-add_part-in-None-clause-within
returns-in_err-add_part-in-None-clause-within c =
    subst (λ (n : ℕ). n ≤ 16777217) (ap (λ (h : Held). h.taken) c.self.view_is) c.self.invariant.1

pub returns-in_err-add_part-in-None-clause-fault : goal.returns-in_err-add_part-in-None-clause-fault
returns-in_err-add_part-in-None-clause-fault c =
    let held : List ℕ = rest_of c.self.inside.used c.deref.result.now in
    let is : c.args.self.now.pending ≡ held = ap (λ (h : Held). h.pending) (sym c.self.view_is)
    ∙ (ap (λ (t : List ℕ). drop c.self.inside.used t) (sym c.deref.ensures.value)
    ∙ sym (held_of c.self.inside.used c.deref.result.now)) in
    let none : AllWithin (λ byte. byte ≢ 10) held 0 (length held) = IsFirst-from_position _ _ _
    (λ byte. byte ≡ 10) (λ byte. byte ≢ 10) c.in-None.ensures.ran
    (YieldsList-from_slice held c.iter.ensures.rest) (λ x q k. search (rules, tests))
    (λ x q k. search (rules, tests)) in
    let fault : IsPartFault (BeginsTooLong (c.args.line.now.items ++ c.args.self.now.pending))
    c.in_err-add_part-in-None.field-0.0 =
    part_as _ _ c.in_err-add_part-in-None.field-0.0
    (whole_long c.args.line.now.items held c.args.self.now.pending is c.requires
    (λ k d low. none k d zero-le low)) c.in_err-add_part-in-None.ensures.fault in
    told_as _ _ c.from_residual-in_err-add_part-in-None.ensures.1 fault

pub invariant_of-self : goal.invariant_of-self
invariant_of-self c = (
  used_within _ _ _ _ _ c.iter.ensures.rest c.in-Some.ensures.bound c.deref.ensures.len,
  c.self.invariant.1,
)

pub returns-in_ok-add_part-in-Some-clause-moved : goal.returns-in_ok-add_part-in-Some-clause-moved
returns-in_ok-add_part-in-Some-clause-moved c =
    let held : List ℕ = rest_of c.self.inside.used c.deref.result.now in
    let ends : EndsAt held c.in-Some.end = IsFirst-from_position _ _ _ (λ byte. byte ≡ 10)
    (λ byte. byte ≢ 10) c.in-Some.ensures.ran (YieldsList-from_slice held c.iter.ensures.rest)
    (λ x q k. search (rules, tests)) (λ x q k. search (rules, tests)) in
    whole_part c.self.inside.used c.in-Some.end _ _ c.deref.result.now c.self.inside.piece.items _ _
    _ (ap (λ (h : Held). h.pending) (sym c.self.view_is)) c.deref.ensures.value ends
    c.in_ok-add_part-in-Some.ensures.added (ap (λ (h : Held). h.taken) c.self.view_is)

pub invariant_of-self-in-None : goal.invariant_of-self-in-None
invariant_of-self-in-None c = (as_much _ _ c.len-self-inside.ensures, c.self.invariant.1)

pub returns-in_ok-add_part-in-None-clause-moved : goal.returns-in_ok-add_part-in-None-clause-moved
returns-in_ok-add_part-in-None-clause-moved c =
    let held : List ℕ = rest_of c.self.inside.used c.deref.result.now in
    let none : AllWithin (λ byte. byte ≢ 10) held 0 (length held) = IsFirst-from_position _ _ _
    (λ byte. byte ≡ 10) (λ byte. byte ≢ 10) c.in-None.ensures.ran
    (YieldsList-from_slice held c.iter.ensures.rest) (λ x q k. search (rules, tests))
    (λ x q k. search (rules, tests)) in
    no_end c.self.inside.used c.len-self-inside.result _ _ c.deref.result.now
    c.self.inside.piece.items _ _ _ (ap (λ (h : Held). h.pending) (sym c.self.view_is))
    c.deref.ensures.value none
    c.in_ok-add_part-in-None.ensures.added (ap (λ (h : Held). h.taken) c.self.view_is)
    (c.len-self-inside.ensures ∙ c.self.inside.piece.ok.0)
