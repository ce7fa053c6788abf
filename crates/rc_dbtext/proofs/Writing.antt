-- What is written part by part is the text.
use Rattle.std.proofs.Common.{◌≡◌, ◌∙◌, ◌<◌, ◌+◌, ℕ, Bool, List, [], ◌∷◌, ◌++◌, length, map, take}
use Rattle.std.proofs.Common.{get_or, slice_get, slice_index_or, Some, None, Option, IfSome, All}
use Rattle.std.proofs.Common.{Contains, arith, sym, ap, subst, append_assoc}
use Rattle.std.proofs.lemmas.List.{append-nil, length-map, take_more, take_all}
use Rattle.std.proofs.lemmas.List.Elements.{Contains-get_or, All-map}
use Rattle.std.proofs.lemmas.List.Concat.{flat_map-append}
use Rattle.std.proofs.lemmas.Option.{slice_get-get_or, slice_get-map, slice_get_within}
use Rattle.std.proofs.lemmas.Option.{get_or_from_slice_get, same_Some}
use Rattle.std.specs.Prelude.{codes}
use Rattle.std.specs.Fmt.{decimal}
use Rattle.std.specs.List.{flat_map}
use Rattle.std.specs.Option.{option_map}
use Rattle.rc_model.specs.Line.{Lists}
use Rattle.rc_model.specs.Names.{Has, IsInByteOrder}
use Rattle.rc_model.specs.Database.{Service, Database, IsDatabase}
use Rattle.rc_dbtext.specs.Text.{Line, OfService, OfNeeds, Last, ServiceText, BundleText}
use Rattle.rc_dbtext.specs.Text.{body_lines, bundle_lines, service_lines, spell, spells}
use Rattle.rc_dbtext.specs.Text.{line_of_words}
use Rattle.rc_dbtext.specs.Lines.{bundles_part, services_part}
use Rattle.rc_dbtext.specs.Spelling.{body_of, bundle_text, head_of, members, name_at, service_text}
use Rattle.rc_dbtext.specs.Spelling.{service_texts, spelling, text_of}
use Rattle.rc_model.proofs.ByteOrder.{one_place}
use Rattle.rc_model.proofs.SetMembers.{has_within}
use Rattle.rc_dbtext.proofs.Naming.{mapped_member, member_mapped, named_back, names_ascend}
use Rattle.rc_dbtext.proofs.Bundling.{has_member, member_has, members_ascend}
use Rattle.rc_dbtext.proofs.Spelled.{named_texts, text_there}

-- what stands past the end of the bundles
abbrev pub no_bundle : BundleText
no_bundle = record { name = []; members = [] }

-- a count after its word is its line
pub count_line : (word old now : List ℕ) (n m : ℕ) → n ≡ m
    → now ≡ old ++ line_of_words (word ∷ decimal n ∷ [])
    → now ≡ old ++ (line_of_words (word ∷ decimal m ∷ []) ++ [])
count_line word old now n m same is =
    is ∙ ap (λ (k : ℕ). old ++ line_of_words (word ∷ decimal k ∷ [])) same
    ∙ ap (λ (l : List ℕ). old ++ l) (sym (append-nil (line_of_words (word ∷ decimal m ∷ []))))

module _ {A : Type 0} (lines : A → List Line) (count : Line) (xs : List A) where
  -- the count alone
  pub counted_init : (old now : List ℕ) → now ≡ old ++ spell count
      → now ≡ old ++ spells (count ∷ flat_map lines (take 0 xs))
  counted_init old now is = is ∙ ap (λ (l : List ℕ). old ++ l) (sym (append-nil (spell count)))

  -- one value more
  pub counted_step : (old mid new : List ℕ) (i : ℕ) (d : A) → i < length xs
      → mid ≡ old ++ spells (count ∷ flat_map lines (take i xs))
      → new ≡ mid ++ spells (lines (get_or xs i d))
      → new ≡ old ++ spells (count ∷ flat_map lines (take (i + 1) xs))
  counted_step old mid new i d within so_far one =
      let so : List Line = count ∷ flat_map lines (take i xs) in
      let more : List Line = lines (get_or xs i d) in
      let last : flat_map lines (take (i + 1) xs) ≡ flat_map lines (take i xs) ++ more =
      ap (flat_map lines) (take_more xs i d within)
      ∙ flat_map-append lines (take i xs) (get_or xs i d ∷ [])
      ∙ ap (λ (ls : List Line). flat_map lines (take i xs) ++ ls) (append-nil more) in
      one ∙ ap (λ (l : List ℕ). l ++ spells more) so_far
      ∙ append_assoc old (spells so) (spells more)
      ∙ ap (λ (l : List ℕ). old ++ l) (sym (flat_map-append spell so more))
      ∙ ap (λ (ls : List Line). old ++ spells (count ∷ ls)) (sym last)

  -- all of them
  pub counted_all : (old now : List ℕ) (i : ℕ) → length xs < i + 1
      → now ≡ old ++ spells (count ∷ flat_map lines (take i xs))
      → now ≡ old ++ spells (count ∷ flat_map lines xs)
  counted_all old now i past so_far =
      so_far ∙ ap (λ (front : List A). old ++ spells (count ∷ flat_map lines front))
      (take_all i xs (omega arith))

module _ (names : List (List ℕ)) (order : IsInByteOrder names) where
  -- the ids of a set have the names of its members
  pub same_members : (set : List Bool) (ids : List ℕ) → length set ≡ length names
      → Lists (Has set) ids → map (name_at names) ids ≡ map (name_at names) (members set)
  same_members set ids long are =
      let low : All (λ t. t < length names) (members set) = λ k e within. (
      let below : get_or (members set) k e < length set = has_within set (get_or (members set) k e)
      (has_member set (get_or (members set) k e) (Contains-get_or (members set) k e within)) in
      omega arith) in
      let known : All (Contains names) (map (name_at names) (members set)) =
      All-map (Contains names) (name_at names) (members set)
      (λ k e within. Contains-get_or names (get_or (members set) k e) [] (low k e within)) in
      named_back names (map (name_at names) (members set)) ids known (λ t. (
        λ has.
            let member : Contains (members set) t = member_has set t ((are.same t).0 has) in
            let below : t < length set = has_within set t ((are.same t).0 has) in (
              name_at names t,
              slice_get-get_or names t [] (omega arith),
              mapped_member (name_at names) (members set) t member,
            ),
        λ (name, at, listed).
            let found = member_mapped (name_at names) (members set) name listed in
            let below : found.0 < length set =
            has_within set found.0 (has_member set found.0 found.1) in
            let here : slice_get names found.0 ≡ Some name =
            slice_get-get_or names found.0 [] (omega arith) ∙ ap (λ (n : List ℕ). Some n) found.2 in
            (are.same t).1
            (subst (Has set) (one_place names name found.0 t order here at)
            (has_member set found.0 found.1)),
      )) order (names_ascend names (members set) order (members_ascend set) low) are.ascending

  -- the ids of a set are below the number of names
  pub ids_low : (set : List Bool) (ids : List ℕ) → length set ≡ length names → Lists (Has set) ids
      → All (λ t. t < length names) ids
  ids_low set ids long are k e within =
      let low : get_or ids k e < length set = has_within set (get_or ids k e)
      ((are.same (get_or ids k e)).0 (Contains-get_or ids k e within)) in
      omega arith

module _ (d : Database) (is : IsDatabase d) where
  abbrev pub texts : List ServiceText
  texts = service_texts d.names d.names d.services d.needs

  pub as_many_texts : length (text_of d).services ≡ length d.names
  as_many_texts =
      sym (length-map texts (λ (s : ServiceText). s.head.name))
      ∙ ap length (named_texts d.names d.names d.services d.needs is.fit.services is.fit.graph)

  pub as_many_bundles : length (text_of d).bundles ≡ length d.table
  as_many_bundles = length-map d.table (bundle_text d.names)

  pub row_below : (s : ℕ) → All (λ t. t < length d.names) (slice_index_or d.needs s [])
  row_below s k e within =
      let low : get_or (slice_index_or d.needs s []) k e < length d.needs =
      is.needs.known s (get_or (slice_index_or d.needs s []) k e)
      (Contains-get_or (slice_index_or d.needs s []) k e within) in
      omega (arith, is.fit.graph)

  pub fed_within : (k : ℕ) (s : Service) (o : Option ℕ) (names : List (List ℕ))
      → slice_get d.services k ≡ Some s → s.producer_for ≡ o → names ≡ d.names
      → IfSome o (λ t. t < length names)
  fed_within k s None names here fed same = tt
  fed_within k s (Some t) names here fed same =
      let low : t < length d.needs = is.needs.known k t (is.fit.fed k t (s, here, fed)).1 in
      omega (arith, is.fit.graph, ap length same)

  -- a service is written where its lines are
  own_written : (id : ℕ) (name : List ℕ) (s : Service) (row : List ℕ) (text : ServiceText)
      (old a b e : List ℕ) → id < length d.names → slice_get d.services id ≡ Some s
      → row ≡ slice_index_or d.needs id []
      → slice_get texts id ≡ Some text → slice_get d.names id ≡ Some name
      → a ≡ old ++ spell (OfService (head_of name s))
      → b ≡ a ++ spell (OfNeeds (map (name_at d.names) row))
      → e ≡ b ++ spells (body_lines (body_of d.names s.kind s))
      → e ≡ old ++ spells (service_lines text)
  own_written id name s row text old a b e within here listed at named first second third =
      let in_needs : slice_get d.needs id ≡ Some row = slice_get-get_or d.needs id []
      (omega (arith, is.fit.graph)) ∙ ap (λ (r : List ℕ). Some r) (sym listed) in
      let same : service_text d.names name s row ≡ text =
      same_Some (service_text d.names name s row) text
      (sym (text_there d.names d.names d.services d.needs id name s row named here in_needs)
      ∙ at) in
      let head : List ℕ = spell (OfService (head_of name s)) in
      let needs : List ℕ = spell (OfNeeds (map (name_at d.names) row)) in
      let body : List ℕ = spells (body_lines (body_of d.names s.kind s)) in
      third ∙ ap (λ (l : List ℕ). l ++ body)
      (second ∙ ap (λ (l : List ℕ). l ++ needs) first ∙ append_assoc old head needs)
      ∙ append_assoc old (head ++ needs) body
      ∙ ap (λ (l : List ℕ). old ++ l) (append_assoc head needs body)
      ∙ ap (λ (t : ServiceText). old ++ spells (service_lines t)) same

  pub service_written : (names : List (List ℕ)) (id : ℕ) (name : List ℕ) (s : Service)
      (row : List ℕ) (text : ServiceText) (old a b e : List ℕ) → names ≡ d.names
      → id < length d.names → slice_get d.services id ≡ Some s
      → row ≡ slice_index_or d.needs id [] → slice_get texts id ≡ Some text
      → slice_get names id ≡ Some name → a ≡ old ++ spell (OfService (head_of name s))
      → b ≡ a ++ spell (OfNeeds (map (name_at names) row))
      → e ≡ b ++ spells (body_lines (body_of names s.kind s))
      → e ≡ old ++ spells (service_lines text)
  service_written names id name s row text old a b e same within here listed at =
      let P : List (List ℕ) → Type 0 = λ ns. slice_get ns id ≡ Some name
      → a ≡ old ++ spell (OfService (head_of name s))
      → b ≡ a ++ spell (OfNeeds (map (name_at ns) row))
      → e ≡ b ++ spells (body_lines (body_of ns s.kind s))
      → e ≡ old ++ spells (service_lines text) in
      subst P (sym same) (own_written id name s row text old a b e within here listed at)

  pub long_at : (place : ℕ) (name : List ℕ) (set : List Bool)
      → slice_get d.table place ≡ Some (name, set) → length set ≡ length d.names
  long_at place name set at =
      subst (λ (b : List ℕ × List Bool). length b.1 ≡ length d.names)
      (get_or_from_slice_get d.table place (name, set) (name, set) at)
      (is.fit.bounds place (name, set) (slice_get_within d.table place (name, set) at))

  -- a bundle is written where its line is
  pub bundle_written : (names : List (List ℕ)) (place : ℕ) (name : List ℕ) (set : List Bool)
      (text : BundleText) (old new : List ℕ) → names ≡ d.names
      → slice_get d.table place ≡ Some (name, set)
      → slice_get (map (bundle_text d.names) d.table) place ≡ Some text
      → new ≡ old ++ line_of_words (codes "bundle" ∷ name ∷ map (name_at names) (members set))
      → new ≡ old ++ spells (bundle_lines text)
  bundle_written names place name set text old new same at text_at line =
      let listed : map (name_at names) (members set) ≡ map (name_at d.names) (members set) =
      ap (λ (ns : List (List ℕ)). map (name_at ns) (members set)) same in
      let is_text : bundle_text d.names (name, set) ≡ text =
      same_Some (bundle_text d.names (name, set)) text
      (ap (option_map (bundle_text d.names)) (sym at)
      ∙ sym (slice_get-map (bundle_text d.names) d.table place) ∙ text_at) in
      let words : List ℕ =
      line_of_words (codes "bundle" ∷ name ∷ map (name_at d.names) (members set)) in
      line ∙ ap (λ (ns : List (List ℕ)). old ++ line_of_words (codes "bundle" ∷ name ∷ ns)) listed
      ∙ ap (λ (l : List ℕ). old ++ l) (sym (append-nil words) ∙ sym (append-nil (words ++ [])))
      ∙ ap (λ (t : BundleText). old ++ spells (bundle_lines t)) is_text

-- the parts in a row are the text
pub parts_written : (d : Database) (a b c e : List ℕ)
    → a ≡ line_of_words (codes "undorc-db" ∷ codes "1" ∷ []) → b ≡ a ++ spells (services_part d)
    → c ≡ b ++ spells (bundles_part d) → e ≡ c ++ (codes "end" ++ 10 ∷ []) → e ≡ spelling d
unfolding spelling
parts_written d a b c e first second third fourth =
    let front : List ℕ = line_of_words (codes "undorc-db" ∷ codes "1" ∷ []) in
    let end : List ℕ = codes "end" ++ 10 ∷ [] in
    fourth ∙ ap (λ (l : List ℕ). l ++ end)
    (third ∙ ap (λ (l : List ℕ). l ++ spells (bundles_part d))
    (second ∙ ap (λ (l : List ℕ). l ++ spells (services_part d)) first))
    ∙ append_assoc (front ++ spells (services_part d)) (spells (bundles_part d)) end
    ∙ append_assoc front (spells (services_part d)) (spells (bundles_part d) ++ end)
    ∙ ap (λ (l : List ℕ). front ++ (spells (services_part d) ++ l))
    (sym (flat_map-append spell (bundles_part d) (Last ∷ [])))
    ∙ ap (λ (l : List ℕ). front ++ l)
    (sym (flat_map-append spell (services_part d) (bundles_part d ++ Last ∷ [])))
