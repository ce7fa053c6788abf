-- A text is that of one database: places and sets are known by the names of their services.
use Rattle.std.proofs.Common.{◌≡◌, ◌≢◌, ◌∙◌, ℕ, ◌<◌, Bool, false, List, [], ◌∷◌, length, map}
use Rattle.std.proofs.Common.{get_or, slice_get, Some, None, Option, IfSome, IsSome, All, Contains}
use Rattle.std.proofs.Common.{unwrap_or, arith, refl, sym, ap, subst}
use Rattle.std.proofs.lemmas.Bool.{false≢true}
use Rattle.std.proofs.lemmas.List.{ext_get_or}
use Rattle.std.proofs.lemmas.List.Elements.{All-head, All-tail, Contains-get_or}
use Rattle.std.proofs.lemmas.Option.{slice_get-get_or}
use Rattle.std.specs.Option.{option_map}
use Rattle.std.specs.Cmp.{both_ways}
use Rattle.rc_model.specs.declared.Kind.{Kind}
use Rattle.rc_model.specs.declared.Kind.TheVariants as kinds
use Rattle.rc_model.specs.Names.{IsInByteOrder}
use Rattle.rc_model.specs.Database.{Service, Bundles, HaveBound, Database, IsDatabase}
use Rattle.rc_db.specs.Service.{IsWritableService}
use Rattle.rc_db.specs.Database.{IsWritable}
use Rattle.rc_dbtext.specs.Text.{OfLongrun, OfOneshot, ServiceText, BundleText, DbText}
use Rattle.rc_dbtext.specs.Meaning.{service_names}
use Rattle.rc_dbtext.specs.Spelling.{body_of, bundle_text, members, name_at, service_text}
use Rattle.rc_dbtext.specs.Spelling.{service_texts, text_of}
use Rattle.rc_model.proofs.ByteOrder.{one_place}
use Rattle.rc_model.proofs.SetMembers.{has_within}
use Rattle.rc_dbtext.proofs.Bundling.{has_member, member_has}
use Rattle.rc_dbtext.proofs.Spelled.{below, fed_low, named_texts}

pub head_once : {X : Type 0} (x y : X) (xs ys : List X) → x ∷ xs ≡ y ∷ ys → x ≡ y
head_once x y xs ys same = cc

pub tail_once : {X : Type 0} (x y : X) (xs ys : List X) → x ∷ xs ≡ y ∷ ys → xs ≡ ys
tail_once x y xs ys same = cc

-- sets of one bound with the same members are one
pub flags_once : (a b : List Bool) → length a ≡ length b → members a ≡ members b → a ≡ b
flags_once a b long same =
    ext_get_or false a b long (λ k within. both_ways (get_or a k false) (get_or b k false)
    (λ has. has_member b k (subst (λ (ids : List ℕ). Contains ids k) same (member_has a k has)))
    (λ has. has_member a k
    (subst (λ (ids : List ℕ). Contains ids k) (sym same) (member_has b k has))))

-- what a service of a database may be, for places below a bound
pub record IsPlain (bound : ℕ) (s : Service) : Type 0 where
  pub writable : IsWritableService s
  pub kind : s.kind ≢ kinds.Bundle
  pub fed : IfSome s.producer_for (λ t. t < bound)

some_once : (a b : Option (List ℕ)) → IsSome a → IsSome b → unwrap_or a [] ≡ unwrap_or b [] → a ≡ b
some_once None b some_a some_b same = absurd (false≢true some_a)
some_once (Some x) None some_a some_b same = absurd (false≢true some_b)
some_once (Some x) (Some y) some_a some_b same = ap (λ (t : List ℕ). Some t) same

module _ (names : List (List ℕ)) (order : IsInByteOrder names) where
  name_once : (s t : ℕ) → s < length names → t < length names → name_at names s ≡ name_at names t
      → s ≡ t
  name_once s t low_s low_t same =
      one_place names (name_at names s) s t order (slice_get-get_or names s [] low_s)
      (slice_get-get_or names t [] low_t ∙ ap (λ (n : List ℕ). Some n) (sym same))

  pub ids_once : (xs ys : List ℕ) → All (λ t. t < length names) xs → All (λ t. t < length names) ys
      → map (name_at names) xs ≡ map (name_at names) ys → xs ≡ ys
  ids_once [] [] low_x low_y same = refl
  ids_once [] (y ∷ ys) low_x low_y same = absurd (omega (arith, ap length same))
  ids_once (x ∷ xs) [] low_x low_y same = absurd (omega (arith, ap length same))
  ids_once (x ∷ xs) (y ∷ ys) low_x low_y same =
      let heads : name_at names x ≡ name_at names y = cc in
      let tails : map (name_at names) xs ≡ map (name_at names) ys = cc in
      let first : x ≡ y = name_once x y (All-head (λ t. t < length names) x xs low_x)
      (All-head (λ t. t < length names) y ys low_y) heads in
      let rest : xs ≡ ys = ids_once xs ys (All-tail (λ t. t < length names) x xs low_x)
      (All-tail (λ t. t < length names) y ys low_y) tails in
      cc

  option_once : (a b : Option ℕ) → IfSome a (λ t. t < length names)
      → IfSome b (λ t. t < length names)
      → option_map (name_at names) a ≡ option_map (name_at names) b → a ≡ b
  option_once None None low_a low_b same = refl
  option_once None (Some t) low_a low_b same =
      absurd (let bad : None ≡ Some (name_at names t) = same in cc)
  option_once (Some s) None low_a low_b same =
      absurd (let bad : Some (name_at names s) ≡ None = same in cc)
  option_once (Some s) (Some t) low_a low_b same =
      ap (λ (n : ℕ). Some n)
      (name_once s t low_a low_b
      (let both : Some (name_at names s) ≡ Some (name_at names t) = same in cc))

  body_once : (kind : Kind) (s t : Service) → IsPlain (length names) s → IsPlain (length names) t
      → s.kind ≡ kind → t.kind ≡ kind → body_of names kind s ≡ body_of names kind t
      → (s.text_up ≡ t.text_up) × (s.text_down ≡ t.text_down) × (s.producer_for ≡ t.producer_for)
  body_once kinds.Oneshot s t is_s is_t kind_s kind_t same =
      let both : OfOneshot (unwrap_or s.text_up []) s.text_down ≡ OfOneshot (unwrap_or t.text_up [])
      t.text_down = same in
      let ups : unwrap_or s.text_up [] ≡ unwrap_or t.text_up [] = cc in
      let downs : s.text_down ≡ t.text_down = cc in
      let at_s = is_s.writable.oneshot kind_s in
      let at_t = is_t.writable.oneshot kind_t in
      (some_once s.text_up t.text_up at_s.0 at_t.0 ups, downs, at_s.1 ∙ sym at_t.1)
  body_once kinds.Longrun s t is_s is_t kind_s kind_t same =
      let both : OfLongrun (option_map (name_at names) s.producer_for)
      ≡ OfLongrun (option_map (name_at names) t.producer_for) = same in
      let fed : option_map (name_at names) s.producer_for ≡ option_map (name_at names)
      t.producer_for = cc in
      let at_s = is_s.writable.longrun kind_s in
      let at_t = is_t.writable.longrun kind_t in (
        at_s.0 ∙ sym at_t.0,
        at_s.1 ∙ sym at_t.1,
        option_once s.producer_for t.producer_for is_s.fed is_t.fed fed,
      )
  body_once kinds.Bundle s t is_s is_t kind_s kind_t same = absurd (is_s.kind kind_s)

  service_once : (name : List ℕ) (s t : Service) (row other : List ℕ) → IsPlain (length names) s
      → IsPlain (length names) t → service_text names name s row ≡ service_text names name t other
      → s ≡ t
  service_once name s t row other is_s is_t same =
      let kind : s.kind ≡ t.kind = ap (λ (x : ServiceText). x.head.kind) same in
      let essential : s.essential ≡ t.essential = ap (λ (x : ServiceText). x.head.essential) same in
      let up : s.limit_up ≡ t.limit_up = ap (λ (x : ServiceText). x.head.limit_up) same in
      let down : s.limit_down ≡ t.limit_down = ap (λ (x : ServiceText). x.head.limit_down) same in
      let bodies : body_of names s.kind s ≡ body_of names t.kind t =
      ap (λ (x : ServiceText). x.body) same in
      let rest = body_once t.kind s t is_s is_t kind refl
      (ap (λ (k : Kind). body_of names k s) (sym kind) ∙ bodies) in
      λ k. record {
        kind = kind k;
        essential = essential k;
        limit_up = up k;
        limit_down =
            down k;
        text_up = rest.0 k;
        text_down = rest.1 k;
        producer_for = rest.2 k;
      }

  texts_once : (own : List (List ℕ)) (ss ts : List Service) (rows others : List (List ℕ))
      → length ss ≡ length own → length ts ≡ length own → length rows ≡ length own
      → length others ≡ length own
      → All (IsPlain (length names)) ss → All (IsPlain (length names)) ts
      → All (λ row. All (λ t. t < length names) row) rows
      → All (λ row. All (λ t. t < length names) row) others
      → service_texts names own ss rows ≡ service_texts names own ts others
      → (ss ≡ ts) × (rows ≡ others)
  texts_once [] [] [] [] [] long_s long_t long_r long_o is_s is_t low_r low_o same = (refl, refl)
  texts_once [] (s ∷ ss) ts rows others long_s long_t long_r long_o is_s is_t low_r low_o same =
      absurd (omega arith)
  texts_once [] [] (t ∷ ts) rows others long_s long_t long_r long_o is_s is_t low_r low_o same =
      absurd (omega arith)
  texts_once [] [] [] (r ∷ rows) others long_s long_t long_r long_o is_s is_t low_r low_o same =
      absurd (omega arith)
  texts_once [] [] [] [] (o ∷ others) long_s long_t long_r long_o is_s is_t low_r low_o same =
      absurd (omega arith)
  texts_once (name ∷ own) [] ts rows others long_s long_t long_r long_o is_s is_t low_r low_o same =
      absurd (omega arith)
  texts_once (name ∷ own) (s ∷ ss) [] rows others long_s long_t long_r long_o is_s is_t low_r low_o
      same = absurd (omega arith)
  texts_once (name ∷ own) (s ∷ ss) (t ∷ ts) [] others long_s long_t long_r long_o is_s is_t low_r
      low_o same = absurd (omega arith)
  texts_once (name ∷ own) (s ∷ ss) (t ∷ ts) (r ∷ rows) [] long_s long_t long_r long_o is_s is_t
      low_r low_o same = absurd (omega arith)
  texts_once (name ∷ own) (s ∷ ss) (t ∷ ts) (r ∷ rows) (o ∷ others) long_s long_t long_r long_o is_s
      is_t low_r low_o same =
      let Low : List ℕ → Type 0 = λ row. All (λ t. t < length names) row in
      let heads : service_text names name s r ≡ service_text names name t o =
      head_once (service_text names name s r) (service_text names name t o)
      (service_texts names own ss rows) (service_texts names own ts others) same in
      let tails : service_texts names own ss rows ≡ service_texts names own ts others =
      tail_once (service_text names name s r) (service_text names name t o)
      (service_texts names own ss rows) (service_texts names own ts others) same in
      let first : s ≡ t = service_once name s t r o (All-head (IsPlain (length names)) s ss is_s)
      (All-head (IsPlain (length names)) t ts is_t) heads in
      let row : r ≡ o = ids_once r o (All-head Low r rows low_r) (All-head Low o others low_o)
      (ap (λ (x : ServiceText). x.needs) heads) in
      let rest = texts_once own ss ts rows others (omega arith) (omega arith) (omega arith)
      (omega arith) (All-tail (IsPlain (length names)) s ss is_s)
      (All-tail (IsPlain (length names)) t ts is_t) (All-tail Low r rows low_r)
      (All-tail Low o others low_o) tails in
      ((λ k. first k ∷ rest.0 k), (λ k. row k ∷ rest.1 k))

  pub members_low : (set : List Bool) → length set ≡ length names
      → All (λ t. t < length names) (members set)
  members_low set long k d within =
      let low : get_or (members set) k d < length set = has_within set (get_or (members set) k d)
      (has_member set (get_or (members set) k d) (Contains-get_or (members set) k d within)) in
      omega arith

  pub tables_once : (a b : Bundles) → HaveBound (length names) a → HaveBound (length names) b
      → map (bundle_text names) a ≡ map (bundle_text names) b → a ≡ b
  tables_once [] [] below_a below_b same = refl
  tables_once [] (y ∷ b) below_a below_b same = absurd (omega (arith, ap length same))
  tables_once (x ∷ a) [] below_a below_b same = absurd (omega (arith, ap length same))
  tables_once (x ∷ a) (y ∷ b) below_a below_b same =
      let Long : List ℕ × List Bool → Type 0 = λ bundle. length bundle.1 ≡ length names in
      let heads : bundle_text names x ≡ bundle_text names y = head_once (bundle_text names x)
      (bundle_text names y) (map (bundle_text names) a) (map (bundle_text names) b) same in
      let tails : map (bundle_text names) a ≡ map (bundle_text names) b =
      tail_once (bundle_text names x) (bundle_text names y) (map (bundle_text names) a)
      (map (bundle_text names) b) same in
      let long_x : length x.1 ≡ length names = All-head Long x a below_a in
      let long_y : length y.1 ≡ length names = All-head Long y b below_b in
      let name : x.0 ≡ y.0 = ap (λ (t : BundleText). t.name) heads in
      let ids : members x.1 ≡ members y.1 = ids_once (members x.1) (members y.1)
      (members_low x.1 long_x) (members_low y.1 long_y)
      (ap (λ (t : BundleText). t.members) heads) in
      let set : x.1 ≡ y.1 = flags_once x.1 y.1 (long_x ∙ sym long_y) ids in
      let rest : a ≡ b =
      tables_once a b (All-tail Long x a below_a) (All-tail Long y b below_b) tails in
      λ k. (name k, set k) ∷ rest k

module _ (d : Database) (is : IsDatabase d) (writable : IsWritable d) where
  pub rows_low : All (λ row. All (λ t. t < length d.names) row) d.needs
  rows_low k e within =
      below d is writable k (get_or d.needs k e) (slice_get-get_or d.needs k e within)

  fed_below : (k : ℕ) (s : Service) (o : Option ℕ) → slice_get d.services k ≡ Some s
      → s.producer_for ≡ o → IfSome o (λ t. t < length d.names)
  fed_below k s None here fed = tt
  fed_below k s (Some t) here fed = fed_low d is writable k s t here fed

  pub services_plain : All (IsPlain (length d.names)) d.services
  services_plain k e within = record {
    writable = writable k e within;
    kind = is.fit.kinds k e within;
    fed =
        fed_below k (get_or d.services k e) (get_or d.services k e).producer_for
        (slice_get-get_or d.services k e within) refl;
  }

-- databases that say the same are one
pub text_once : (a b : Database) → IsDatabase a → IsWritable a → IsDatabase b → IsWritable b
    → text_of a ≡ text_of b → a ≡ b
text_once a b is_a can_a is_b can_b same =
    let names : a.names ≡ b.names =
    sym (named_texts a.names a.names a.services a.needs is_a.fit.services is_a.fit.graph)
    ∙ ap (λ (t : DbText). service_names t.services) same ∙ named_texts b.names b.names b.services
    b.needs is_b.fit.services is_b.fit.graph in
    let Rows : List (List ℕ) → Type 0 = λ ns. All (λ row. All (λ t. t < length ns) row) b.needs in
    let Plain : List (List ℕ) → Type 0 = λ ns. All (IsPlain (length ns)) b.services in
    let Below : List (List ℕ) → Type 0 = λ ns. HaveBound (length ns) b.table in
    let services = texts_once a.names is_a.names.order a.names a.services b.services a.needs b.needs
    is_a.fit.services (is_b.fit.services ∙ ap length (sym names)) is_a.fit.graph
    (is_b.fit.graph ∙ ap length (sym names))
    (services_plain a is_a can_a) (subst Plain (sym names) (services_plain b is_b can_b))
    (rows_low a is_a can_a) (subst Rows (sym names) (rows_low b is_b can_b))
    (ap (λ (t : DbText). t.services) same
    ∙ ap (λ (ns : List (List ℕ)). service_texts ns ns b.services b.needs) (sym names)) in
    let table : a.table ≡ b.table = tables_once a.names is_a.names.order a.table b.table
    is_a.fit.bounds (subst Below (sym names) is_b.fit.bounds)
    (ap (λ (t : DbText). t.bundles) same ∙ ap (λ (ns : List (List ℕ)). map (bundle_text ns) b.table)
    (sym names)) in
    λ k. record { names = names k; services = services.0 k; needs = services.1 k; table = table k }
