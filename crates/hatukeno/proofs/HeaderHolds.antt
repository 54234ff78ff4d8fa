-- The words are those of the header, by computation.
use mathlib.Core.Path.{◌≡◌, refl}
use Rattle.verbs.specs.Verbs.{step_of}
use Rattle.hatukeno.specs.Calls.{said_fields, answer_fields}
use Rattle.hatukeno.specs.Previews.{preview_fields}
use Rattle.hatukeno.specs.Turns.{picker_in, turn_fields}
use Rattle.hatukeno.specs.Lists.{step_at}
use Rattle.hatukeno.specs.Header.{as_written, in_the_header, TwoSteps, waiting, waiting_in_the_header, verdicts, verdicts_in_the_header}

pub header_holds : as_written ≡ in_the_header
unfolding as_written in_the_header said_fields answer_fields preview_fields turn_fields picker_in
header_holds = refl

pub two_steps_hold : TwoSteps
unfolding step_at step_of
two_steps_hold b = (refl, refl)

pub waiting_holds : waiting ≡ waiting_in_the_header
unfolding waiting waiting_in_the_header
waiting_holds = refl

pub verdicts_hold : verdicts ≡ verdicts_in_the_header
unfolding verdicts_in_the_header
verdicts_hold = refl
