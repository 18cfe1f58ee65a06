-- What contracts see of a command of the program that shows what scripts give a site.
-- Source: none.
use Rattle.command_line.specs.Shows.{PlainShow}
use Rattle.command_line.specs.Shows as plain
use Rattle.command_line.specs.declared.shows.Show.{Show}
use Rattle.command_line.specs.declared.shows.Show.TheVariants.{Help, Shows}

-- a command
abbrev pub plain_show : Show → PlainShow
plain_show Help = plain.Help
plain_show (Shows what site list batch checkpoint start) =
    plain.Shows what site.now list.now batch checkpoint start
