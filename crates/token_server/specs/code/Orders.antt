-- What a command orders a node to do, and the message that it is.
use Rattle.std.specs.Prelude.{ℕ}
use Rattle.messages.specs.declared.message.Message.{Message}
use Rattle.messages.specs.declared.message.Message.TheVariants as message
use Rattle.token_server.specs.declared.known_nodes.server_command.Order.{Order}
use Rattle.token_server.specs.declared.known_nodes.server_command.Order.TheVariants.{Grant, Revoke, Hello}

-- the message in which the server of the file gives the order
abbrev pub message_of : ℕ → Order → Message
message_of file (Grant number call mode span) = message.Grant file number call mode span
message_of file (Revoke number holder call mode wanted) = message.Revoke file number holder call mode wanted
message_of file (Hello number holder) = message.Hello file number holder

-- the order of a message that is a command
abbrev pub order_of : Message → Order
order_of (message.Grant file number call mode span) = Grant number call mode span
order_of (message.Revoke file number holder call mode wanted) = Revoke number holder call mode wanted
order_of (message.Hello file number holder) = Hello number holder
order_of _ = Hello 0 (record { node = 0; incarnation = 0 })
