-- The definitions of rc_compile, in reading order.

-- Texts that are one slip of the hand apart.
pub mod Edits
-- The interpreter that a script names in its first line.
pub mod Interpreters
-- What `compile` writes: the text of the database of what the files of trees say.
pub mod CompiledText
-- Why `compile` writes nothing, and what it tells.
pub mod CompileRefusals
-- Lists of names that lead from one to another by a relation, and their cycles.
pub mod Along
-- Services, longruns and pipelines among definitions, and which name a pipeline has.
pub mod Pipelines
-- What a name stands for among definitions, and which service needs which by name.
pub mod Standing
-- Relations between names, as lists of ids for the places of the names.
pub mod Mirror
-- When bundles have no graph, because they hold one another in a cycle.
pub mod CycleFaults
-- One step of a walk: a list is met, and what of it is new is left to follow.
pub mod Walking
-- Sets that are joined along the lists of a graph.
pub mod Joining
-- Definitions whose pipes and names fit, and the sets of services of their bundles.
pub mod Sets
-- The lists that vectors of vectors hold.
pub mod Rows
-- The names that a definition gives to services and bundles, and when a table of names is full.
pub mod Given
-- The database that definitions make.
pub mod Compiled
-- What definitions are refused for: the flaws, and their order.
pub mod CompileFaults
-- The tables that the compiler's tests look into: services, bundles, pipes and shared names.
pub mod Book
-- For each name, the place of its definition, and the service that this makes.
pub mod Placed
