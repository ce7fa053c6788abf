-- What adding a name answers at each of its exits.
use Rattle.std.proofs.Common.{◌≡◌, ℕ, ◌+◌, Bool, true, false, List, map, Option, Some}
use Rattle.std.proofs.Common.{None, Result, Ok, Err, is_some, slice_get, Contains, IfSome, IfNone}
use Rattle.std.proofs.Common.{OnErr, arith, sym, ap, subst, ◌∙◌, true≢false}
use Rattle.std.specs.Map.{keys_of, values_of}
use Rattle.rc_model.specs.Names.{AreNames}
use Rattle.rc_model.proofs.Members.{contains_at}

-- a text that was found is among the names
pub is_there : (names : List (List ℕ)) (name text : List ℕ) (place : Option ℕ) (found : Bool)
    → IfSome place (λ id. slice_get names id ≡ Some text) → text ≡ name → found ≡ is_some place
    → found ≡ true → Contains names name
is_there names name text None found at same is so = absurd (true≢false (sym so ∙ is))
is_there names name text (Some id) found at same is so =
    subst (Contains names) same (contains_at names id text at)

-- and one that was not found is none of them
pub is_absent : (names : List (List ℕ)) (name text : List ℕ) (place : Option ℕ) (found : Bool)
    → IfNone place (Contains names text → ⊥) → text ≡ name → found ≡ is_some place → found ≡ false
    → Contains names name → ⊥
is_absent names name text None found missing same is so there =
    missing (subst (Contains names) (sym same) there)
is_absent names name text (Some id) found missing same is so there =
    absurd (true≢false (sym is ∙ so))

pub as_long : (n : ℕ) → n ≡ n + 0
as_long n = omega arith

-- what holds whatever is answered
pub on_refusal : {T E P : Type 0} (r : Result T E) → P → OnErr r P
on_refusal (Ok x) holds = tt
on_refusal (Err e) holds = holds

-- a table that stays as it is shows what it showed
pub shown_still : {K : Type 0} (bytes : K → List ℕ) (old new : List (K × List ℕ)) → new ≡ old
    → map bytes (keys_of old) ≡ values_of old → AreNames (values_of old)
    → (map bytes (keys_of new) ≡ values_of new) × AreNames (values_of new)
shown_still {K} bytes old new same shown names =
    subst (λ (es : List (K × List ℕ)). (map bytes (keys_of es) ≡ values_of es) × AreNames
    (values_of es)) (sym same) (shown, names)

pub same_still : {K : Type 0} (old new : List (K × List ℕ)) (names : List (List ℕ)) → new ≡ old
    → values_of old ≡ names → values_of new ≡ names
same_still old new names same is = ap values_of same ∙ is
