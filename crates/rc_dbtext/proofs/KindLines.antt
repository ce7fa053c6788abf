-- The kinds of lines: the words of each are words, and each is read once.
use Rattle.std.proofs.Common.{◌≡◌, ◌∙◌, ℕ, ◌<◌, ◌≤◌, ◌^◌, Bool, true, false, List, [], ◌∷◌, ◌++◌}
use Rattle.std.proofs.Common.{length, get_or, drop, All, Option, Some, None, IfSome}
use Rattle.std.proofs.Common.{arith, refl, sym, ap, subst}
use Rattle.std.proofs.lemmas.Fmt.{decimal_injective}
use Rattle.std.proofs.lemmas.Str.{IsUtf8-from_ascii}
use Rattle.std.proofs.lemmas.Str.Ascii.{IsAscii-from_all}
use Rattle.std.specs.Prelude.{codes}
use Rattle.std.specs.Fmt.{decimal}
use Rattle.rc_model.specs.declared.Kind.{Kind}
use Rattle.rc_model.specs.declared.Kind.TheVariants as kinds
use Rattle.rc_model.specs.Names.{IsName}
use Rattle.rc_model.proofs.Lists.{word_at}
use Rattle.rc_db.specs.Service.{IsScript}
use Rattle.rc_dbtext.specs.Text.{First, ServiceCount, OfService, OfNeeds, OfProducer, OfUp}
use Rattle.rc_dbtext.specs.Text.{OfDown}
use Rattle.rc_dbtext.specs.Text.{BundleCount, OfBundle, Last, Head, BundleText, IsHead}
use Rattle.rc_dbtext.specs.Text.{IsBundleText, words, text_behind, kind_word, flag_word, or_dash}
use Rattle.rc_dbtext.specs.Text.{length_word}
use Rattle.rc_dbtext.specs.LineValues.{IsPlain, ArePlain, IsOfWords, IsOfNoWords}
use Rattle.rc_dbtext.proofs.Sequences.{IsOnce}
use Rattle.rc_dbtext.proofs.Numbers.{IsNumber-decimal}
use Rattle.rc_dbtext.proofs.NumberWords.{plain_numbered}
use Rattle.rc_dbtext.proofs.Plain.{plain_from, plain_name, plain_names, plain_words, IsName-a}
use Rattle.rc_dbtext.proofs.Plain.{plain_decimal, no_words}
use Rattle.rc_dbtext.proofs.LineWords.{each_cons}
use Rattle.rc_dbtext.proofs.LineReads.{IsKind}
use Rattle.rc_dbtext.proofs.LineTexts.{text_head, text_needs, text_producer, text_up, text_down}
use Rattle.rc_dbtext.proofs.LineTexts.{text_bundle, text_last}
use Rattle.rc_dbtext.proofs.WordLines.{once_words}
use Rattle.rc_dbtext.proofs.Cutting.{text_once}

plain_kind : (kind : Kind) → IsPlain (kind_word kind)
plain_kind kinds.Oneshot = plain_from (codes "oneshot") refl
plain_kind kinds.Longrun = plain_from (codes "longrun") refl
plain_kind kinds.Bundle = plain_from (codes "bundle") refl

plain_flag : (flag : Bool) → IsPlain (flag_word flag)
plain_flag true = plain_from (codes "essential") refl
plain_flag false = plain_from (codes "plain") refl

plain_dash : (name : Option (List ℕ)) → IfSome name IsName → IsPlain (or_dash name)
plain_dash None is = plain_from (codes "-") refl
plain_dash (Some name) is = plain_name name is

plain_length : (text : Option (List ℕ)) → IfSome text IsScript → IsPlain (length_word text)
plain_length None is = plain_from (codes "-") refl
plain_length (Some text) is = plain_decimal (length text) (omega (arith, is.short))

pub plain_first : ArePlain (words First)
plain_first =
    plain_words (codes "undorc-db") (codes "1" ∷ []) (plain_from (codes "undorc-db") refl)
    (each_cons (codes "1") [] (plain_from (codes "1") refl) no_words)

pub plain_services : (n : ℕ) → n ≤ 4096 → ArePlain (words (ServiceCount n))
plain_services n few =
    plain_numbered (codes "services") (decimal n) (plain_from (codes "services") refl)
    (IsNumber-decimal n (omega arith))

pub plain_bundles : (n : ℕ) → n ≤ 4096 → ArePlain (words (BundleCount n))
plain_bundles n few =
    plain_numbered (codes "bundles") (decimal n) (plain_from (codes "bundles") refl)
    (IsNumber-decimal n (omega arith))

pub plain_head : (head : Head) → IsHead head → ArePlain (words (OfService head))
plain_head head is =
    plain_words (codes "service")
    (head.name ∷ kind_word head.kind ∷ flag_word head.essential ∷ decimal head.limit_up
    ∷ decimal head.limit_down ∷ []) (plain_from (codes "service") refl)
    (each_cons head.name
    (kind_word head.kind ∷ flag_word head.essential ∷ decimal head.limit_up
    ∷ decimal head.limit_down ∷ []) (plain_name head.name is.name)
    (each_cons (kind_word head.kind)
    (flag_word head.essential ∷ decimal head.limit_up ∷ decimal head.limit_down ∷ [])
    (plain_kind head.kind)
    (each_cons (flag_word head.essential) (decimal head.limit_up ∷ decimal head.limit_down ∷ [])
    (plain_flag head.essential)
    (each_cons (decimal head.limit_up) (decimal head.limit_down ∷ [])
    (plain_decimal head.limit_up (omega (arith, is.limit_up)))
    (each_cons (decimal head.limit_down) []
    (plain_decimal head.limit_down (omega (arith, is.limit_down))) no_words)))))

pub plain_needs : (names : List (List ℕ)) → All IsName names → ArePlain (words (OfNeeds names))
plain_needs names each =
    plain_words (codes "needs") names (plain_from (codes "needs") refl) (plain_names names each)

pub plain_producer : (producer_for : Option (List ℕ)) → IfSome producer_for IsName
    → ArePlain (words (OfProducer producer_for))
plain_producer producer_for is =
    plain_words (codes "producer") (or_dash producer_for ∷ []) (plain_from (codes "producer") refl)
    (each_cons (or_dash producer_for) [] (plain_dash producer_for is) no_words)

pub plain_up : (text : List ℕ) → IsScript text → ArePlain (words (OfUp text))
plain_up text is =
    plain_numbered (codes "up") (decimal (length text)) (plain_from (codes "up") refl)
    (IsNumber-decimal (length text) (omega (arith, is.short)))

pub plain_down : (text : Option (List ℕ)) → IfSome text IsScript → ArePlain (words (OfDown text))
plain_down text is =
    plain_words (codes "down") (length_word text ∷ []) (plain_from (codes "down") refl)
    (each_cons (length_word text) [] (plain_length text is) no_words)

pub plain_bundle : (bundle : BundleText) → IsBundleText bundle → ArePlain (words (OfBundle bundle))
plain_bundle bundle is =
    plain_words (codes "bundle") (bundle.name ∷ bundle.members) (plain_from (codes "bundle") refl)
    (each_cons bundle.name bundle.members (plain_name bundle.name is.name)
    (plain_names bundle.members is.members))

pub plain_last : ArePlain (words Last)
plain_last = plain_words (codes "end") [] (plain_from (codes "end") refl) no_words

kind_once : (a b : Kind) → kind_word a ≡ kind_word b → a ≡ b
kind_once kinds.Oneshot kinds.Oneshot same = refl
kind_once kinds.Oneshot kinds.Longrun same =
    absurd (omega (arith, ap (λ (l : List ℕ). get_or l 0 0) same))
kind_once kinds.Oneshot kinds.Bundle same =
    absurd (omega (arith, ap (λ (l : List ℕ). get_or l 0 0) same))
kind_once kinds.Longrun kinds.Oneshot same =
    absurd (omega (arith, ap (λ (l : List ℕ). get_or l 0 0) same))
kind_once kinds.Longrun kinds.Longrun same = refl
kind_once kinds.Longrun kinds.Bundle same =
    absurd (omega (arith, ap (λ (l : List ℕ). get_or l 0 0) same))
kind_once kinds.Bundle kinds.Oneshot same =
    absurd (omega (arith, ap (λ (l : List ℕ). get_or l 0 0) same))
kind_once kinds.Bundle kinds.Longrun same =
    absurd (omega (arith, ap (λ (l : List ℕ). get_or l 0 0) same))
kind_once kinds.Bundle kinds.Bundle same = refl

flag_once : (a b : Bool) → flag_word a ≡ flag_word b → a ≡ b
flag_once true true same = refl
flag_once true false same = absurd (omega (arith, ap (λ (l : List ℕ). get_or l 0 0) same))
flag_once false true same = absurd (omega (arith, ap (λ (l : List ℕ). get_or l 0 0) same))
flag_once false false same = refl

-- a dash is no name
pub dash_no_name : (name : List ℕ) → IsName name → codes "-" ≡ name → ⊥
dash_no_name name is same = is.bytes.no_option (ap (λ (l : List ℕ). get_or l 0 0) (sym same))

-- nor a number
pub dash_no_number : (n : ℕ) → n < 2 ^ 64 → codes "-" ≡ decimal n → ⊥
dash_no_number n small same =
    let number = IsNumber-decimal n small in
    let digit = number.each 0 0 number.some in
    omega (arith, ap (λ (l : List ℕ). get_or l 0 0) same)

dash_once : (a b : Option (List ℕ)) → IfSome a IsName → IfSome b IsName
    → or_dash a ≡ or_dash b → a ≡ b
dash_once None None is_a is_b same = refl
dash_once None (Some name) is_a is_b same = absurd (dash_no_name name is_b same)
dash_once (Some name) None is_a is_b same = absurd (dash_no_name name is_a (sym same))
dash_once (Some a) (Some b) is_a is_b same = ap Some same

pub once_first : IsOnce (λ (u : Unit {0}). Unit {0}) (λ _. First ∷ [])
once_first =
    once_words (λ (u : Unit {0}). Unit {0}) (λ _. First) (λ _ _. plain_first)
    (λ a b x y is_a is_b same behind. refl)

pub once_services : IsOnce (λ n. n ≤ 4096) (λ n. ServiceCount n ∷ [])
once_services =
    once_words (λ n. n ≤ 4096) ServiceCount plain_services (λ a b x y few_a few_b same behind.
    decimal_injective a b (omega arith) (omega arith)
    (word_at 1 (words (ServiceCount a)) (words (ServiceCount b)) same))

pub once_bundles : IsOnce (λ n. n ≤ 4096) (λ n. BundleCount n ∷ [])
once_bundles =
    once_words (λ n. n ≤ 4096) BundleCount plain_bundles (λ a b x y few_a few_b same behind.
    decimal_injective a b (omega arith) (omega arith)
    (word_at 1 (words (BundleCount a)) (words (BundleCount b)) same))

pub once_head : IsOnce IsHead (λ head. OfService head ∷ [])
once_head = once_words IsHead OfService plain_head (λ a b x y is_a is_b same behind.
    let at : (k : ℕ) → get_or (words (OfService a)) k [] ≡ get_or (words (OfService b)) k [] =
    λ k. word_at k (words (OfService a)) (words (OfService b)) same in
    let name : a.name ≡ b.name = at 1 in
    let kind : a.kind ≡ b.kind = kind_once a.kind b.kind (at 2) in
    let flag : a.essential ≡ b.essential = flag_once a.essential b.essential (at 3) in
    let up : a.limit_up ≡ b.limit_up = decimal_injective a.limit_up b.limit_up
    (omega (arith, is_a.limit_up)) (omega (arith, is_b.limit_up)) (at 4) in
    let down : a.limit_down ≡ b.limit_down = decimal_injective a.limit_down b.limit_down
    (omega (arith, is_a.limit_down)) (omega (arith, is_b.limit_down)) (at 5) in
    λ k. record {
      name = name k;
      kind = kind k;
      essential = flag k;
      limit_up = up k;
      limit_down = down k;
    })

pub once_needs : IsOnce (All IsName) (λ names. OfNeeds names ∷ [])
once_needs =
    once_words (All IsName) OfNeeds plain_needs
    (λ a b x y is_a is_b same behind. ap (λ (l : List (List ℕ)). drop 1 l) same)

pub once_producer : IsOnce (λ p. IfSome p IsName) (λ p. OfProducer p ∷ [])
once_producer =
    once_words (λ p. IfSome p IsName) OfProducer plain_producer
    (λ a b x y is_a is_b same behind. dash_once a b is_a is_b
    (word_at 1 (words (OfProducer a)) (words (OfProducer b)) same))

script_once : (a b x y : List ℕ) → IsScript a → IsScript b → decimal (length a) ≡ decimal (length b)
    → (a ++ 10 ∷ []) ++ x ≡ (b ++ 10 ∷ []) ++ y → a ≡ b
script_once a b x y is_a is_b long same =
    (text_once a b x y
    (decimal_injective (length a) (length b) (omega (arith, is_a.short)) (omega (arith, is_b.short))
    long) same).0

pub once_up : IsOnce IsScript (λ text. OfUp text ∷ [])
once_up =
    once_words IsScript OfUp plain_up
    (λ a b x y is_a is_b same behind. script_once a b x y is_a is_b
    (word_at 1 (words (OfUp a)) (words (OfUp b)) same) behind)

pub once_down : IsOnce (λ t. IfSome t IsScript) (λ t. OfDown t ∷ [])
once_down =
    once_words (λ t. IfSome t IsScript) OfDown plain_down
    (λ a b x y is_a is_b same behind. by a b x y is_a is_b
    (word_at 1 (words (OfDown a)) (words (OfDown b)) same) behind)
  where
    by : (a b : Option (List ℕ)) (x y : List ℕ) → IfSome a IsScript → IfSome b IsScript
        → length_word a ≡ length_word b → text_behind (OfDown a) ++ x ≡ text_behind (OfDown b) ++ y
        → a ≡ b
    by None None x y is_a is_b same behind = refl
    by None (Some text) x y is_a is_b same behind =
        absurd (dash_no_number (length text) (omega (arith, is_b.short)) same)
    by (Some text) None x y is_a is_b same behind =
        absurd (dash_no_number (length text) (omega (arith, is_a.short)) (sym same))
    by (Some a) (Some b) x y is_a is_b same behind =
        ap Some (script_once a b x y is_a is_b same behind)

pub once_bundle : IsOnce IsBundleText (λ b. OfBundle b ∷ [])
once_bundle = once_words IsBundleText OfBundle plain_bundle (λ a b x y is_a is_b same behind.
    let name : a.name ≡ b.name = word_at 1 (words (OfBundle a)) (words (OfBundle b)) same in
    let members : a.members ≡ b.members = ap (λ (l : List (List ℕ)). drop 2 l) same in
    λ k. record { name = name k; members = members k })

pub once_last : IsOnce (λ (u : Unit {0}). Unit {0}) (λ _. Last ∷ [])
once_last =
    once_words (λ (u : Unit {0}). Unit {0}) (λ _. Last) (λ _ _. plain_last)
    (λ a b x y is_a is_b same behind. refl)

-- the number that a text's length is written as is its length
pub same_length : (text long : List ℕ) (n : ℕ) → long ≡ decimal (length text) → long ≡ decimal n
    → n ≤ 65536 → IsScript text → length text ≡ n
same_length text long n written is few script =
    decimal_injective (length text) n (omega (arith, script.short)) (omega arith) (sym written ∙ is)

-- the empty text
pub IsScript-none : IsScript []
IsScript-none = record {
  short = omega arith;
  bytes = λ k d within. absurd (omega arith);
  utf8 =
      IsUtf8-from_ascii [] (IsAscii-from_all [] (λ k d within. absurd (omega arith)));
}

pub head_kind : IsKind IsHead OfService
head_kind = record {
  plain = plain_head;
  text = text_head;
  some = record {
    name = codes "a";
    kind = kinds.Longrun;
    essential = false;
    limit_up =
        0;
    limit_down = 0;
  };
  is_some = record {
    name = IsName-a;
    kind = λ same. longrun_no_bundle same;
    limit_up =
        omega arith;
    limit_down = omega arith;
  };
  no_version = λ bytes bad. bad;
  no_count = λ bytes bad. bad;
}
  where
    longrun_no_bundle : kinds.Longrun ≡ kinds.Bundle → ⊥
    longrun_no_bundle same = absurd cc

pub needs_kind : IsKind (All IsName) OfNeeds
needs_kind = record {
  plain = plain_needs;
  text = text_needs;
  some = [];
  is_some = λ k d within. absurd (omega arith);
  no_version = λ bytes bad. bad;
  no_count = λ bytes bad. bad;
}

pub producer_kind : IsKind (λ p. IfSome p IsName) OfProducer
producer_kind = record {
  plain = plain_producer;
  text = text_producer;
  some = None;
  is_some =
      tt;
  no_version = λ bytes bad. bad;
  no_count = λ bytes bad. bad;
}

pub up_kind : IsKind IsScript OfUp
up_kind = record {
  plain = plain_up;
  text = text_up;
  some = [];
  is_some = IsScript-none;
  no_version = λ bytes bad. bad;
  no_count = λ bytes bad. bad;
}

pub down_kind : IsKind (λ t. IfSome t IsScript) OfDown
down_kind = record {
  plain = plain_down;
  text = text_down;
  some = None;
  is_some = tt;
  no_version =
      λ bytes bad. bad;
  no_count = λ bytes bad. bad;
}

pub bundle_kind : IsKind IsBundleText OfBundle
bundle_kind = record {
  plain = plain_bundle;
  text = text_bundle;
  some = record { name = codes "a"; members = [] };
  is_some = record { name = IsName-a; members = λ k d within. absurd (omega arith) };
  no_version = λ bytes bad. bad;
  no_count = λ bytes bad. bad;
}

pub last_kind : IsKind (λ (u : Unit {0}). Unit {0}) (λ _. Last)
last_kind = record {
  plain = λ u is. plain_last;
  text = λ u is. text_last;
  some = tt;
  is_some =
      tt;
  no_version = λ bytes bad. bad;
  no_count = λ bytes bad. bad;
}

-- no bundle where the word for its name is none
pub no_bundle_name : (name : List ℕ) (members : List (List ℕ)) → (IsName name → ⊥)
    → IsOfNoWords IsBundleText OfBundle (codes "bundle" ∷ name ∷ members)
no_bundle_name name members none value is same =
    none (subst IsName
    (sym (word_at 1 (codes "bundle" ∷ name ∷ members) (words (OfBundle value)) same)) is.name)

-- nor where the words for its members are none
pub no_bundle_members : (name : List ℕ) (members : List (List ℕ)) → (All IsName members → ⊥)
    → IsOfNoWords IsBundleText OfBundle (codes "bundle" ∷ name ∷ members)
no_bundle_members name members none value is same =
    none (subst (All IsName) (sym (ap (λ (l : List (List ℕ)). drop 2 l) same)) is.members)

-- a bundle by its words
pub is_bundle : (word name : List ℕ) (ws members : List (List ℕ)) → name ≡ word → IsName word
    → members ≡ ws → All IsName members
    → IsOfWords IsBundleText OfBundle (codes "bundle" ∷ word ∷ ws)
    (record { name = name; members = members })
is_bundle word name ws members named is same each = (
  record { name = subst IsName (sym named) is; members = each },
  sym (ap (λ (n : List ℕ). codes "bundle" ∷ n ∷ members) named
      ∙ ap (λ (ms : List (List ℕ)). codes "bundle" ∷ word ∷ ms) same),
)

-- a text for the way down is neither missing nor here
pub no_down : (long rest : List ℕ) → (long ≡ codes "-" → ⊥)
    → ((text tail : List ℕ) → IsScript text → long ≡ decimal (length text)
    → rest ≡ text_behind (OfUp text) ++ tail → ⊥)
    → (value : Option (List ℕ)) (tail : List ℕ) → IfSome value IsScript → long ≡ length_word value
    → rest ≡ text_behind (OfDown value) ++ tail → ⊥
no_down long rest no_dash none None tail is same behind = no_dash same
no_down long rest no_dash none (Some text) tail is same behind = none text tail is same behind
