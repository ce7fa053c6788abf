use Rattle.std.proofs.Common.{Contains, List, ap, length, map, subst, sym, ℕ, ◌∙◌}
use Rattle.std.specs.Global.{Vec}
use Rattle.rc_model.specs.Names.{Holds}
use Rattle.rc_compile.specs.Rows.{rows}
use Rattle.rc_compile.proofs.RowLemmas.{length-rows}
use Rattle.rc_source.specs.Meaning.{Meaning}
use Rattle.rc_source.specs.Said.{meaning_of}
use Rattle.rc_compile.specs.Mirror.{HasListed}
use Rattle.rc_compile.specs.declared.members.rows.Listed.TheVariants.{Producer}
use Rattle.rc_compile.specs.Book.{IsMatchedAt}
use Rattle.rc_compile.proofs.Looking.{paired, writes_listed}
use Rattle.rc_compile.proofs.book.listed.Goals as goal

pub shared_of-requires : goal.shared_of-requires
shared_of-requires c name given = (c.requires.bundles name).1 given

pub matched_of-requires : goal.matched_of-requires
matched_of-requires c =
    ap length c.deref.ensures.value ∙ sym (length-rows c.in_ok-feeds.feeds.items)
    ∙ c.in_ok-feeds.ensures.few

pub returns : goal.returns
returns c =
    let ms = map meaning_of c.args.definitions.now in
    let names = c.args.services.now in
    let feeds = c.in_ok-feeds.feeds.items in
    let pair = paired (HasListed Producer ms) names (rows feeds) c.in_ok-feeds.ensures in
    let Fed : List (Vec ℕ)
    → Type 0 = λ v. Holds c.in_ok-matched.matched
    (λ s. (m : Meaning) × Contains ms m × IsMatchedAt names (rows v) m s) in
    record {
      service = c.requires.services;
      bundle = c.requires.bundles;
      marked = c.in_ok-shared.ensures.bound;
      twice = c.in_ok-shared.ensures.members;
      bound = c.in_ok-longruns.ensures.bound;
      longrun = c.in_ok-longruns.ensures.members;
      fed = sym (length-rows feeds) ∙ c.in_ok-feeds.ensures.few;
      joined = c.in_ok-matched.ensures.bound;
      writes = λ a b. (
        λ pairs. let (in_a, in_b, has) = (pair a b).0 pairs in
            (in_a, in_b, (writes_listed ms a b).0 has),
        λ (in_a, in_b, writes). (pair a b).1 (in_a, in_b, (writes_listed ms a b).1 writes),
      );
      matched = subst Fed c.deref.ensures.value c.in_ok-matched.ensures.members;
    }
