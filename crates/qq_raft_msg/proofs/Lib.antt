mod FieldLaws
mod Numbers
mod RpcLaws
