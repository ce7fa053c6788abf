use Rattle.std.proofs.Common.{◌≡◌, ◌↔◌, List, [], ℕ, map, Contains, Option, Some, None, IfSome}
use Rattle.std.proofs.Common.{IfNone, sym, subst}
use Rattle.std.proofs.lemmas.Option.{IfSome_then}
use Rattle.std.proofs.lemmas.Result.{IfOk-weaker}
use Rattle.rc_source.specs.Said.{meaning_of}
use Rattle.rc_model.proofs.Members.{none_contained}
use Rattle.rc_compile.specs.Along.{IsLeast}
use Rattle.rc_compile.specs.Book.{IsSought}
use Rattle.rc_compile.proofs.Shown.{same_least}
use Rattle.rc_compile.proofs.scan.least_sought.Goals as goal

none_then : {X : Type 0} (o : Option X) {A B : Type 0} → (A → B) → IfNone o A → IfNone o B
none_then None f h = f h
none_then (Some x) f h = h

pub returns-clause-some : goal.returns-clause-some
returns-clause-some c =
    let Has : List ℕ → Type 0 = IsSought (map meaning_of c.args.definitions.now) c.args.sought in
    let listed : (s : List ℕ)
    → Contains c.deref.result.now s
    ↔ Has s = subst (λ (l : List (List ℕ)). (s : List ℕ) → Contains l s ↔ Has s)
    (sym c.deref.ensures.value) c.in_ok-names.ensures in
    IfOk-weaker c.least.result (λ found. IfSome found (IsLeast (Contains c.deref.result.now)))
    (λ found. IfSome found (IsLeast Has))
    (λ found some. IfSome_then found {P = IsLeast (Contains c.deref.result.now)} {Q = IsLeast Has}
    some (same_least (Contains c.deref.result.now) Has listed)) c.least.ensures.some

pub returns-clause-none : goal.returns-clause-none
returns-clause-none c =
    let Has : List ℕ → Type 0 = IsSought (map meaning_of c.args.definitions.now) c.args.sought in
    IfOk-weaker c.least.result (λ found. IfNone found (c.deref.result.now ≡ []))
    (λ found. IfNone found ((s : List ℕ) → Has s → ⊥))
    (λ found none. none_then found (λ empty s has.
    let there = (c.in_ok-names.ensures s).1 has in
    let gone : c.in_ok-names.names.items ≡ [] = cc (empty, c.deref.ensures.value) in
    none_contained s (subst (λ (l : List (List ℕ)). Contains l s) gone there)) none)
    c.least.ensures.none
