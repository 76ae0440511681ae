-- What a command of the code stands for.
use Rattle.line.specs.Command.{Command, opening, calling}
use Rattle.line.specs.declared.command.Command as code
use Rattle.line.specs.declared.command.Command.TheVariants.{Open, Create, Grow, Publish, Drop, Cap, Locate}
use Rattle.line.specs.declared.answer.Answer as answer
use Rattle.model.specs.Calls as model
use Rattle.model.specs.Listing.{Line, line}

abbrev pub command_of : code.Command → Command
command_of (Open limits) = opening limits
command_of (Create id tag name) = calling (model.create id tag name.now)
command_of (Grow id) = calling (model.grow id)
command_of (Publish id len) = calling (model.publish id len)
command_of (Drop id) = calling (model.drop id)
command_of (Cap tag limit) = calling (model.cap tag limit)
command_of (Locate id pos n) = calling (model.locate id pos n)

abbrev pub line_of : answer.Answer → Line
line_of a = line a.refusal a.at a.held a.free
