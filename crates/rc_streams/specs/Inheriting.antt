-- With what a program inherits it can't run scripts.
use Rattle.std.specs.Prelude.{Bool, Option, None, Some, true, false}
use Rattle.rc_streams.specs.declared.inherited.Unfit.{Unfit}
use Rattle.rc_streams.specs.declared.inherited.Unfit.TheVariants as unfit

-- a program that ignores SIGCHLD can't, and neither can one whose files are limited in size, where
-- it does not ignore the signal of that
abbrev pub unfit_of : (ignores_child is_limited ignores_size : Bool) → Option Unfit
unfit_of true is_limited ignores_size = Some unfit.ChildIgnored
unfit_of false true false = Some unfit.SizeLimited
unfit_of false true true = None
unfit_of false false ignores_size = None
