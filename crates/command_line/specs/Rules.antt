-- The rule of an argument, by how it is given.
use Rattle.clap.specs.Words.{Rule, Text}
use Rattle.command_line.specs.Arguments.{place, last_place, text_option, flag}
use Rattle.command_line.specs.declared.arguments.Kind.{Kind}
use Rattle.command_line.specs.declared.arguments.Kind.TheVariants as kinds

abbrev pub rule_for : Kind → Text → Rule
rule_for kinds.Place name = place name
rule_for kinds.LastPlace name = last_place name
rule_for kinds.Valued name = text_option name
rule_for kinds.Flag name = flag name
