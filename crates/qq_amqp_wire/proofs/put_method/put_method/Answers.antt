use Rattle.std.proofs.Common.{subst}
use Rattle.qq_amqp_wire.specs.Writing.{HasLengths}
use Rattle.qq_amqp_wire.proofs.put_method.put_method.Goals as goal

pub put_start-requires : goal.put_start-requires
put_start-requires c = subst HasLengths c.in-ConnectionStart.is c.requires

pub put_start_ok-requires : goal.put_start_ok-requires
put_start_ok-requires c = subst HasLengths c.in-ConnectionStartOk.is c.requires

pub put_open-requires : goal.put_open-requires
put_open-requires c = subst HasLengths c.in-ConnectionOpen.is c.requires

pub put_close-requires : goal.put_close-requires
put_close-requires c = subst HasLengths c.in-ConnectionClose.is c.requires

pub put_channel_close-requires : goal.put_channel_close-requires
put_channel_close-requires c = subst HasLengths c.in-ChannelClose.is c.requires

pub put_queue_declare-requires : goal.put_queue_declare-requires
put_queue_declare-requires c = subst HasLengths c.in-QueueDeclare.is c.requires

pub put_queue_declare_ok-requires : goal.put_queue_declare_ok-requires
put_queue_declare_ok-requires c = subst HasLengths c.in-QueueDeclareOk.is c.requires

pub put_queue_purge-requires : goal.put_queue_purge-requires
put_queue_purge-requires c = subst HasLengths c.in-QueuePurge.is c.requires

pub put_consume-requires : goal.put_consume-requires
put_consume-requires c = subst HasLengths c.in-BasicConsume.is c.requires

pub put_consume_ok-requires : goal.put_consume_ok-requires
put_consume_ok-requires c = subst HasLengths c.in-BasicConsumeOk.is c.requires

pub put_cancel-requires : goal.put_cancel-requires
put_cancel-requires c = subst HasLengths c.in-BasicCancel.is c.requires

pub put_cancel_ok-requires : goal.put_cancel_ok-requires
put_cancel_ok-requires c = subst HasLengths c.in-BasicCancelOk.is c.requires

pub put_publish-requires : goal.put_publish-requires
put_publish-requires c = subst HasLengths c.in-BasicPublish.is c.requires

pub put_deliver-requires : goal.put_deliver-requires
put_deliver-requires c = subst HasLengths c.in-BasicDeliver.is c.requires

pub put_get-requires : goal.put_get-requires
put_get-requires c = subst HasLengths c.in-BasicGet.is c.requires

pub put_get_ok-requires : goal.put_get_ok-requires
put_get_ok-requires c = subst HasLengths c.in-BasicGetOk.is c.requires
