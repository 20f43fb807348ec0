-- How the program ends where the command line asks for no command.
-- Source: own (text): the exit status of the program.
use Rattle.clap.specs.declared.error.kind.ErrorKind.{ErrorKind}
use Rattle.clap.specs.declared.error.kind.ErrorKind.TheVariants as kind
use Rattle.kmip_report.specs.declared.exit_status.ExitStatus.{ExitStatus}
use Rattle.kmip_report.specs.declared.exit_status.ExitStatus.TheVariants.{Done, Failed, Usage}
use Rattle.kmip_report.specs.declared.command_fault.CommandFault.TheVariants.{NoMemory}

-- How the program ends, by the kind of the error: `Done` for help and the version, which are no fault,
-- `Failed` for want of memory, `Usage` for all else.
abbrev pub status_of : ErrorKind → ExitStatus
status_of kind.DisplayHelp = Done
status_of kind.DisplayVersion = Done
status_of kind.OutOfMemory = Failed NoMemory
status_of other = Usage
