-- The definitions of rc_db, in reading order.

-- The limits and scripts of a service, and which services can be written as text.
pub mod Service
-- Databases that can be written as text.
pub mod Database
-- Pipelines: which service feeds which, where a pipeline ends, and what is in it.
pub mod Pipeline
-- What queries of a database answer: a service by name, its kind, its neighbours, and lists of
-- names.
pub mod Queries
-- When a query is refused, and by which fault first.
pub mod QueryFaults
-- The database that its parts make.
pub mod Parts
-- Which of two lists of names has the next name in byte order.
pub mod Merging
