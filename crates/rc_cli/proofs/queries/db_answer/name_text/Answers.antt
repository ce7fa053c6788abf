use Rattle.rc_cli.proofs.queries.db_answer.name_text.Goals as goal

pub returns-in-Kind-clause-text : goal.returns-in-Kind-clause-text
returns-in-Kind-clause-text c = rw c.in-Kind.is c.kind_text.ensures.text

pub returns-in-Kind-clause-fault : goal.returns-in-Kind-clause-fault
returns-in-Kind-clause-fault c = rw c.in-Kind.is c.kind_text.ensures.fault

pub returns-in-Limit-clause-text : goal.returns-in-Limit-clause-text
returns-in-Limit-clause-text c = rw c.in-Limit.is c.limit_text.ensures.text

pub returns-in-Limit-clause-fault : goal.returns-in-Limit-clause-fault
returns-in-Limit-clause-fault c = rw c.in-Limit.is c.limit_text.ensures.fault

pub returns-in-Flags-clause-text : goal.returns-in-Flags-clause-text
returns-in-Flags-clause-text c = rw c.in-Flags.is c.flags_text.ensures.text

pub returns-in-Flags-clause-fault : goal.returns-in-Flags-clause-fault
returns-in-Flags-clause-fault c = rw c.in-Flags.is c.flags_text.ensures.fault

pub returns-in-Contents-clause-text : goal.returns-in-Contents-clause-text
returns-in-Contents-clause-text c = rw c.in-Contents.is c.contents_text.ensures.text

pub returns-in-Contents-clause-fault : goal.returns-in-Contents-clause-fault
returns-in-Contents-clause-fault c = rw c.in-Contents.is c.contents_text.ensures.fault

pub returns-in-Pipeline-clause-text : goal.returns-in-Pipeline-clause-text
returns-in-Pipeline-clause-text c = rw c.in-Pipeline.is c.pipeline_text.ensures.text

pub returns-in-Pipeline-clause-fault : goal.returns-in-Pipeline-clause-fault
returns-in-Pipeline-clause-fault c = rw c.in-Pipeline.is c.pipeline_text.ensures.fault

pub returns-in-Script-clause-text : goal.returns-in-Script-clause-text
returns-in-Script-clause-text c = rw c.in-Script.is c.script_text.ensures.text

pub returns-in-Script-clause-fault : goal.returns-in-Script-clause-fault
returns-in-Script-clause-fault c = rw c.in-Script.is c.script_text.ensures.fault
