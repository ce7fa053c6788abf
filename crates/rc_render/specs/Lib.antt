-- The definitions of rc_render, in reading order.

-- Lines of names: one name a line, or a word and names after it.
pub mod Lines
-- The lines of a plan.
pub mod PlanText
-- Lines of the services of a set and of bundles.
pub mod Names
-- The answer to a command that is done.
pub mod ReportText
-- Refusals as text: their names, and the words or numbers that they tell.
pub mod RefusalText
-- How a name that nothing has is told.
pub mod UnknownWord
-- The answers to commands, as text.
pub mod AnswerText
-- The journal of a line, as text: where the line stands, and what each entry altered.
pub mod JournalText
-- The picture of a database: the graph of needs in the language of graphviz.
pub mod DotText
