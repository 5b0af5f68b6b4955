pub mod RemainderAgree
pub mod RemainderLaws
