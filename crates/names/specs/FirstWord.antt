-- What a first word begins, as the code has it.
use Rattle.std.specs.Prelude.{Option, None, Some}
use Rattle.names.specs.declared.FirstWord.{FirstWord}
use Rattle.names.specs.declared.FirstWord.TheVariants.{Command, Raw, Help, Who, Quit}
use Rattle.names.specs.declared.Says.TheVariants as says
use Rattle.names.specs.Names.{Start, begins, unknown}

abbrev pub start_as : Option FirstWord → Start
start_as None = unknown
start_as (Some (Command tag)) = begins says.Command tag
start_as (Some Raw) = begins says.Raw 0
start_as (Some Help) = begins says.Help 0
start_as (Some Who) = begins says.Who 0
start_as (Some Quit) = begins says.Quit 0
