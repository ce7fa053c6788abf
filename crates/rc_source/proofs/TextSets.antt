-- What ordered keys show as texts: `bytes` reads a key.
use Rattle.std.proofs.Common.{◌≡◌, ◌≢◌, ℕ, ◌⊎◌, ◌↔◌, ⊎_elim, inl, inr, Bool, true, false, ◌||◌}
use Rattle.std.proofs.Common.{cond, List, [], ◌∷◌, map, Contains, arith, refl, sym, ap, subst, ◌∙◌}
use Rattle.std.proofs.Common.{true≢false, Option, Some}
use Rattle.std.proofs.lemmas.List.Elements.{All-from_recursion, All-map}
use Rattle.std.proofs.lemmas.List.Kept.{AllPairs-cons}
use Rattle.std.specs.List.{list_any}
use Rattle.std.specs.List.Sorted.{IsStrictlySortedBy}
use Rattle.std.specs.Cmp.Lexicographic.{slice_cmp, texts_ties}
use Rattle.std.specs.Ordering.{nat_cmp, is_eq, match_ordering}
use Rattle.std.specs.Str.{bytes_eq}
use Rattle.std.specs.BTreeMap.{insert_entry, is_at}
use Rattle.std.specs.BTreeSet.{insert_key}
use Rattle.std.specs.Map.{lookup}
use Rattle.std.specs.Set.{remove_key}
use Rattle.std.specs.Option.{option_map}
use Rattle.std.specs.declared.cmp.Ordering.{Ordering}
use Rattle.std.specs.declared.cmp.Ordering.TheVariants.{Less, Equal, Greater}
use Rattle.std.proofs.lemmas.Slice.Eq.{bytes_eq-Decides}
use Rattle.rc_model.specs.Names.{IsBefore, IsInByteOrder}
use Rattle.rc_model.proofs.Members.{contains_later, none_contained}
use Rattle.rc_model.proofs.ByteOrder.{same_text}
use Rattle.rc_names.specs.Names.{Adds}
use Rattle.rc_source.specs.Tree.{value_at, IsPutAt}
use Rattle.rc_source.proofs.Members.{Contains-cons_cases, Contains-here}
use Rattle.rc_source.proofs.Members.{differs, bytes_eq-refl}

module _ {K : Type 0} (bytes : K → List ℕ) where
  -- the order of the keys' bytes
  abbrev pub by_bytes : K → K → Ordering
  by_bytes x y = slice_cmp nat_cmp (bytes x) (bytes y)

  -- keys in order show texts in byte order
  pub IsInByteOrder-from_keys : (ks : List K) → IsStrictlySortedBy by_bytes ks
      → IsInByteOrder (map bytes ks)
  unfolding IsStrictlySortedBy
  IsInByteOrder-from_keys [] h = λ i j d before within. absurd (omega arith)
  IsInByteOrder-from_keys (k ∷ ks) h =
      AllPairs-cons IsBefore (bytes k) (map bytes ks)
      (All-map (IsBefore (bytes k)) bytes ks (All-from_recursion (λ y. by_bytes k y ≡ Less) ks h.0))
      (IsInByteOrder-from_keys ks h.1)

  -- the step for one key, by how the new one compares to it
  adds_step : (k x : K) (xs rest : List K) (text : List ℕ)
      → (Contains (map bytes rest) text ↔ (Contains (map bytes xs) text ⊎ (text ≡ bytes k)))
      → (o : Ordering) → by_bytes k x ≡ o
      → Contains (map bytes (match_ordering o (k ∷ x ∷ xs) (x ∷ xs) (x ∷ rest))) text
      ↔ (Contains (map bytes (x ∷ xs)) text ⊎ (text ≡ bytes k))
  adds_step k x xs rest text more Less e = (
    λ there. ⊎_elim (λ here. inr here) (λ old. inl old)
        (Contains-cons_cases (bytes k) (map bytes (x ∷ xs)) text there),
    λ either. ⊎_elim (λ old. contains_later (bytes k) (map bytes (x ∷ xs)) text old)
        (λ here. Contains-here (bytes k) (map bytes (x ∷ xs)) text here) either,
  )
  adds_step k x xs rest text more Equal e = (
    λ there. inl there,
    λ either. ⊎_elim (λ old. old)
        (λ here. Contains-here (bytes x) (map bytes xs) text
        (here ∙ same_text (bytes k) (bytes x) e)) either,
  )
  adds_step k x xs rest text more Greater e = (
    λ there. ⊎_elim (λ here. inl (Contains-here (bytes x) (map bytes xs) text here))
        (λ later. ⊎_elim (λ old. inl (contains_later (bytes x) (map bytes xs) text old))
        (λ new. inr new) (more.0 later))
        (Contains-cons_cases (bytes x) (map bytes rest) text there),
    λ either. ⊎_elim (λ old. ⊎_elim (λ here. Contains-here (bytes x) (map bytes rest) text here)
        (λ later. contains_later (bytes x) (map bytes rest) text (more.1 (inl later)))
        (Contains-cons_cases (bytes x) (map bytes xs) text old))
        (λ new. contains_later (bytes x) (map bytes rest) text (more.1 (inr new))) either,
  )

  -- a key that is put in adds its text
  pub Adds-insert_key : (ks : List K) (k : K)
      → Adds (map bytes ks) (bytes k) (map bytes (insert_key by_bytes ks k))
  Adds-insert_key [] k text = (
    λ there. ⊎_elim (λ here. inr here) (λ rest. inl rest)
        (Contains-cons_cases (bytes k) [] text there),
    λ either. ⊎_elim (λ rest. absurd (none_contained text rest))
        (λ here. Contains-here (bytes k) [] text here) either,
  )
  Adds-insert_key (x ∷ xs) k text =
      adds_step k x xs (insert_key by_bytes xs k) text (Adds-insert_key xs k text)
      (by_bytes k x) refl

  or_true : (b : Bool) → (b || true) ≡ true
  or_true true = refl
  or_true false = refl

  -- a search by a text finds a key just where the text is shown
  pub Contains-from_any : (ks : List K) (text : List ℕ)
      → list_any (λ k. is_eq (slice_cmp nat_cmp text (bytes k))) ks ≡ true
      → Contains (map bytes ks) text
  Contains-from_any [] text found = absurd (true≢false (sym found))
  Contains-from_any (k ∷ ks) text found =
      by (Contains-from_any ks text) (slice_cmp nat_cmp text (bytes k)) refl found
    where
      by : (list_any (λ k. is_eq (slice_cmp nat_cmp text (bytes k))) ks ≡ true
          → Contains (map bytes ks) text)
          → (o : Ordering) → slice_cmp nat_cmp text (bytes k) ≡ o
          → (is_eq o || list_any (λ k. is_eq (slice_cmp nat_cmp text (bytes k))) ks) ≡ true
          → Contains (map bytes (k ∷ ks)) text
      by more Less e f = contains_later (bytes k) (map bytes ks) text (more f)
      by more Equal e f = Contains-here (bytes k) (map bytes ks) text (same_text text (bytes k) e)
      by more Greater e f = contains_later (bytes k) (map bytes ks) text (more f)

  pub any-from_Contains : (ks : List K) (text : List ℕ) → Contains (map bytes ks) text
      → list_any (λ k. is_eq (slice_cmp nat_cmp text (bytes k))) ks ≡ true
  any-from_Contains [] text there = absurd (none_contained text there)
  any-from_Contains (k ∷ ks) text there = ⊎_elim
      (λ here. let ties : is_eq (slice_cmp nat_cmp text (bytes k)) ≡ true =
      sym (texts_ties text (bytes k)) ∙ (bytes_eq-Decides text (bytes k)).1 here in rw ties refl)
      (λ rest. let found = any-from_Contains ks text rest in
      rw found (or_true (is_eq (slice_cmp nat_cmp text (bytes k)))))
      (Contains-cons_cases (bytes k) (map bytes ks) text there)

  -- the step for one key, where the new one is not there
  leaves_step : (k x : K) (xs rest : List K)
      → (list_any (λ y. is_eq (by_bytes k y)) xs ≡ false
      → remove_key (is_at (λ y. by_bytes k y)) rest ≡ xs)
      → (o : Ordering) → by_bytes k x ≡ o
      → (is_eq o || list_any (λ y. is_eq (by_bytes k y)) xs) ≡ false
      → remove_key (is_at (λ y. by_bytes k y)) (match_ordering o (k ∷ x ∷ xs) (x ∷ xs) (x ∷ rest))
      ≡ x ∷ xs
  leaves_step k x xs rest more Less e f =
      let itself : is_eq (by_bytes k k) ≡ true =
      sym (texts_ties (bytes k) (bytes k)) ∙ bytes_eq-refl (bytes k) in rw itself refl
  leaves_step k x xs rest more Equal e f = absurd (true≢false f)
  leaves_step k x xs rest more Greater e f = rw (ap is_eq e) (ap (λ ys. x ∷ ys) (more f))

  -- a new key that goes in and out again leaves the keys as they were
  pub remove_key-insert_key : (ks : List K) (k : K)
      → list_any (λ x. is_eq (by_bytes k x)) ks ≡ false
      → remove_key (is_at (λ x. by_bytes k x)) (insert_key by_bytes ks k) ≡ ks
  remove_key-insert_key [] k h =
      let itself : is_eq (by_bytes k k) ≡ true =
      sym (texts_ties (bytes k) (bytes k)) ∙ bytes_eq-refl (bytes k) in rw itself refl
  remove_key-insert_key (x ∷ xs) k h =
      leaves_step k x xs (insert_key by_bytes xs k) (remove_key-insert_key xs k)
      (by_bytes k x) refl h

  module _ {V W : Type 0} (item : V → W) where
    -- entries as they are seen
    abbrev pub shown : List (K × V) → List (List ℕ × W)
    shown es = map (λ e. (bytes e.0, item e.1)) es

    -- a look-up by a text gives the value that stands beside it
    pub value_at-shown : (es : List (K × V)) (text : List ℕ)
        → value_at (shown es) text
        ≡ option_map item (lookup (is_at (λ k. slice_cmp nat_cmp text (bytes k))) es)
    value_at-shown [] text = refl
    value_at-shown (e ∷ es) text =
        by (value_at-shown es text) (bytes_eq text (bytes e.0)) (texts_ties text (bytes e.0))
      where
        by : value_at (shown es) text
            ≡ option_map item (lookup (is_at (λ k. slice_cmp nat_cmp text (bytes k))) es)
            → (b : Bool) → b ≡ is_eq (slice_cmp nat_cmp text (bytes e.0))
            → cond b (Some (item e.1)) (value_at (shown es) text)
            ≡ option_map item
            (cond (is_eq (slice_cmp nat_cmp text (bytes e.0))) (Some e.1)
            (lookup (is_at (λ k. slice_cmp nat_cmp text (bytes k))) es))
        by more true same = rw (sym same) refl
        by more false same = rw (sym same) more

    twice : (w v : W) (old : Option W) (b : Bool)
        → cond b (Some v) old ≡ cond b (Some v) (cond b (Some w) old)
    twice w v old true = refl
    twice w v old false = refl

    -- texts of which one comes after the other differ
    apart : (k : K) (e : K) (o : Ordering) → by_bytes k e ≡ o → is_eq o ≡ false → (b : Bool)
        → bytes_eq (bytes e) (bytes k) ≡ b → b ≡ false
    apart k e o behind unequal false h = refl
    apart k e o behind unequal true h =
        absurd
        (true≢false
        (sym ((bytes_eq-Decides (bytes k) (bytes e)).1
        (sym ((bytes_eq-Decides (bytes e) (bytes k)).0 h)))
        ∙ differs (bytes k) (bytes e) o behind unequal))

    swapped : (k e : K) (w v : W) (old : Option W) (text : List ℕ) → by_bytes k e ≡ Greater
        → (b : Bool) → bytes_eq text (bytes e) ≡ b
        → cond b (Some w) (cond (bytes_eq text (bytes k)) (Some v) old)
        ≡ cond (bytes_eq text (bytes k)) (Some v) (cond b (Some w) old)
    swapped k e w v old text behind false at = refl
    swapped k e w v old text behind true at =
        let here : text ≡ bytes e = (bytes_eq-Decides text (bytes e)).0 at in
        let fails : bytes_eq text (bytes k) ≡ false = subst (λ t. bytes_eq t (bytes k) ≡ false)
        (sym here) (apart k e Greater behind refl (bytes_eq (bytes e) (bytes k)) refl) in
        rw fails refl

    -- the step for one entry, by how the new key compares to it
    put_step : (k : K) (v : V) (e : K × V) (es rest : List (K × V)) (text : List ℕ)
        → value_at (shown rest) text ≡ cond (bytes_eq text (bytes k)) (Some (item v))
        (value_at (shown es) text)
        → (o : Ordering) → by_bytes k e.0 ≡ o
        → value_at (shown (match_ordering o ((k, v) ∷ e ∷ es) ((e.0, v) ∷ es) (e ∷ rest))) text
        ≡ cond (bytes_eq text (bytes k)) (Some (item v)) (value_at (shown (e ∷ es)) text)
    put_step k v e es rest text more Less here = refl
    put_step k v e es rest text more Equal here =
        rw (same_text (bytes k) (bytes e.0) here)
        (twice (item e.1) (item v) (value_at (shown es) text) (bytes_eq text (bytes e.0)))
    put_step k v e es rest text more Greater here =
        rw more (swapped k e.0 (item e.1) (item v) (value_at (shown es) text) text here
        (bytes_eq text (bytes e.0)) refl)

    -- what stands beside a text after an entry went in
    pub value_at-insert_entry : (es : List (K × V)) (k : K) (v : V) (text : List ℕ)
        → value_at (shown (insert_entry by_bytes es k v)) text ≡ cond (bytes_eq text (bytes k))
        (Some (item v)) (value_at (shown es) text)
    value_at-insert_entry [] k v text = refl
    value_at-insert_entry (e ∷ es) k v text =
        put_step k v e es (insert_entry by_bytes es k v) text (value_at-insert_entry es k v text)
        (by_bytes k e.0) refl

    -- an entry that goes in stands beside its text, and nothing else changes
    pub IsPutAt-insert_entry : (es : List (K × V)) (k : K) (v : V)
        → IsPutAt (shown es) (bytes k) (item v) (shown (insert_entry by_bytes es k v))
    IsPutAt-insert_entry es k v = record {
      here = value_at-insert_entry es k v (bytes k) ∙ (rw (bytes_eq-refl (bytes k)) refl);
      others = λ other apart. value_at-insert_entry es k v other
          ∙ other_than other apart (bytes_eq other (bytes k)) refl;
    }
      where
        other_than : (other : List ℕ) → other ≢ bytes k → (b : Bool) → bytes_eq other (bytes k) ≡ b
            → cond b (Some (item v)) (value_at (shown es) other) ≡ value_at (shown es) other
        other_than other apart true same =
            absurd (apart ((bytes_eq-Decides other (bytes k)).0 same))
        other_than other apart false same = refl
