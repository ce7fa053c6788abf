use Rattle.std.proofs.Common.{List, Bool, map, sym, subst}
use Rattle.rc_source.specs.Said.{meaning_of}
use Rattle.rc_compile.specs.Standing.{StandsFor}
use Rattle.rc_compile.specs.Sets.{AreSetsOf}
use Rattle.rc_compile.proofs.Bridges.{are_piped, are_apart}
use Rattle.rc_compile.proofs.Stages.{no_flaw, no_mismatch, no_taken, no_type}
use Rattle.rc_compile.proofs.build.build.Goals as goal

pub bundle_sets-requires-clause-meanings : goal.bundle_sets-requires-clause-meanings
bundle_sets-requires-clause-meanings c = c.requires.meanings

pub bundle_sets-requires-clause-graph : goal.bundle_sets-requires-clause-graph
bundle_sets-requires-clause-graph c = c.requires.contents

pub bundle_sets-requires-clause-services : goal.bundle_sets-requires-clause-services
bundle_sets-requires-clause-services c = c.requires.book.service

pub bundle_sets-requires-clause-bundles : goal.bundle_sets-requires-clause-bundles
bundle_sets-requires-clause-bundles c = c.requires.book.bundle

pub bundle_sets-requires-clause-piped : goal.bundle_sets-requires-clause-piped
bundle_sets-requires-clause-piped c =
    let ms = map meaning_of c.args.definitions.now in
    let before = c.requires.before in
    are_piped ms (no_type ms before) (no_mismatch ms before)

pub bundle_sets-requires-clause-apart : goal.bundle_sets-requires-clause-apart
bundle_sets-requires-clause-apart c =
    let ms = map meaning_of c.args.definitions.now in
    are_apart ms c.requires.meanings (no_taken ms c.requires.before)

pub graph_of-requires-clause-meanings : goal.graph_of-requires-clause-meanings
graph_of-requires-clause-meanings c = c.requires.meanings

pub graph_of-requires-clause-few : goal.graph_of-requires-clause-few
graph_of-requires-clause-few c = rw c.deref.ensures.value c.in-Ok.ensures.few

pub graph_of-requires-clause-bounds : goal.graph_of-requires-clause-bounds
graph_of-requires-clause-bounds c = rw c.deref.ensures.value c.in-Ok.ensures.bounds

pub graph_of-requires-clause-services : goal.graph_of-requires-clause-services
graph_of-requires-clause-services c = c.requires.book.service

pub graph_of-requires-clause-bundles : goal.graph_of-requires-clause-bundles
graph_of-requires-clause-bundles c = c.requires.book.bundle

pub graph_of-requires-clause-sets : goal.graph_of-requires-clause-sets
graph_of-requires-clause-sets c =
    let Of : List (List Bool)
    → Type 0 = AreSetsOf (StandsFor (map meaning_of c.args.definitions.now)) c.args.book.bundles
    c.args.book.services in subst Of (sym c.deref.ensures.value) c.in-Ok.ensures.sets

pub joined-db-requires-clause-meanings : goal.joined-db-requires-clause-meanings
joined-db-requires-clause-meanings c = c.requires.meanings

pub joined-db-requires-clause-book : goal.joined-db-requires-clause-book
joined-db-requires-clause-book c = c.requires.book

pub joined-db-requires-clause-graph : goal.joined-db-requires-clause-graph
joined-db-requires-clause-graph c = c.in-Ok-graph_of.ensures.graph

pub joined-db-requires-clause-few : goal.joined-db-requires-clause-few
joined-db-requires-clause-few c = rw c.deref-2.ensures.value c.in-Ok.ensures.few

pub joined-db-requires-clause-bounds : goal.joined-db-requires-clause-bounds
joined-db-requires-clause-bounds c = rw c.deref-2.ensures.value c.in-Ok.ensures.bounds

pub joined-db-requires-clause-sets : goal.joined-db-requires-clause-sets
joined-db-requires-clause-sets c =
    let Of : List (List Bool)
    → Type 0 = AreSetsOf (StandsFor (map meaning_of c.args.definitions.now)) c.args.book.bundles
    c.args.book.services in subst Of (sym c.deref-2.ensures.value) c.in-Ok.ensures.sets

pub joined-db-requires-clause-types : goal.joined-db-requires-clause-types
joined-db-requires-clause-types c s has =
    no_type (map meaning_of c.args.definitions.now) c.requires.before s has

pub joined-db-requires-clause-taken : goal.joined-db-requires-clause-taken
joined-db-requires-clause-taken c s has =
    no_taken (map meaning_of c.args.definitions.now) c.requires.before s has

pub returns-clause-free : goal.returns-clause-free
returns-clause-free c =
    no_flaw (map meaning_of c.args.definitions.now) c.requires.before
    (λ (names, ring). c.in-Ok-graph_of.ensures.free names ring)
