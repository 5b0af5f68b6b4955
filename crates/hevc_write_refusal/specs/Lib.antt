pub mod RefusalAgree
pub mod RefusalLaws
