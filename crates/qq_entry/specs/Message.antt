-- Messages and their content.
use Rattle.std.specs.Prelude.{Some, length}
use Rattle.qq_entry.specs.declared.message.Content.{Content}
use Rattle.qq_entry.specs.declared.message.Message.{Message}

-- the message with a content, whose size is that of the body
abbrev pub new_message : Content → Message
new_message content = record { size = length content.body; content = Some content }
